-- Prefixes of legal histories are legal.
use Rattle.std.proofs.Common.{◌≡◌, ℕ, zero, suc, List, [], ◌∷◌, take, Option, Some, None, refl, sym, ◌∙◌}
use Rattle.std.proofs.lemmas.Option.{none-some}
use Rattle.job_bodies.specs.Plan.{Plan}
use Rattle.pool_machine.specs.declared.event.Event.{Event}
use Rattle.pool_machine.specs.State.{State}
use Rattle.pool_machine.specs.Step.{step}
use Rattle.pool_machine.specs.Reach.{start, state_after, replay, Reaches}
use Rattle.pool_machine.proofs.Reached.{replay_none}
use Rattle.locked_runner.specs.Run.{IsLegal}

-- the prefix of n events leads to a state
abbrev LeadsOn : Plan → Option State → List Event → ℕ → Type 0
LeadsOn plan x history n = (t : State) × (replay plan x (take n history) ≡ Some t)

prefix_after : (plan : Plan) (x : Option State) (history : List Event) (s : State) (n : ℕ) → ((s' : State) → replay plan (Some s') history ≡ Some s → LeadsOn plan (Some s') history n) → replay plan x history ≡ Some s → LeadsOn plan x history n
prefix_after plan None history s n onward leads = absurd (none-some s (sym (replay_none plan history) ∙ leads))
prefix_after plan (Some s') history s n onward leads = onward s' leads

prefix_of : (plan : Plan) (s' : State) (history : List Event) (s : State) (n : ℕ) → replay plan (Some s') history ≡ Some s → LeadsOn plan (Some s') history n
prefix_of plan s' [] s zero leads = (s', refl)
prefix_of plan s' [] s (suc n) leads = (s', refl)
prefix_of plan s' (e ∷ history) s zero leads = (s', refl)
prefix_of plan s' (e ∷ history) s (suc n) leads = prefix_after plan (state_after (step plan s' e)) history s n (λ s'' rest. prefix_of plan s'' history s n rest) leads

pub prefix_is_legal : (plan : Plan) (history : List Event) (s : State) (n : ℕ) → Reaches plan history s → IsLegal plan (take n history)
prefix_is_legal plan history s n reached = prefix_of plan (start plan) history s n reached
