-- The world of a certified plan, with its history.
use Rattle.std.specs.Prelude.{◌≡◌, ℕ, List, Some}
use Rattle.job_bodies.specs.Plan.{Plan}
use Rattle.pool_machine.specs.declared.event.Event.{Event}
use Rattle.pool_machine.specs.declared.event.Outcome.TheVariants.{Refused}
use Rattle.pool_machine.specs.State.{State}
use Rattle.pool_machine.specs.Step.{step}
use Rattle.pool_machine.specs.Reach.{Reaches}
use Rattle.interleaving.specs.LiveView.{View, live_view}

-- the history reaches a state with this live view
abbrev pub IsReachedBy : Plan → List Event → View → Type 0
IsReachedBy plan history view = (s : State) × Reaches plan history s × (live_view plan s ≡ view)

-- in the state that the history reaches, no event is a refused submit
abbrev pub RefusesNothing : Plan → List Event → Type 0
RefusesNothing plan history = (s s' : State) (event : Event) (p : ℕ) → Reaches plan history s → ¬ (step plan s event ≡ Some (s', Refused p))
