-- In the machine, a pool rejects a job only if it answers `Refused`. Its queue is then full, and it has max threads.
use Rattle.std.proofs.Common.{◌≡◌, ℕ, ◌≤◌, List, length, Option, Some, None, refl, sym, ap, ◌∙◌}
use Rattle.std.proofs.lemmas.Option.{none-some, same_Some}
use Rattle.job_bodies.specs.declared.action.Action.{Action}
use Rattle.job_bodies.specs.declared.action.Action.TheVariants as action
use Rattle.job_bodies.specs.Plan.{Plan, pool_at}
use Rattle.pool_machine.specs.declared.offer.Offer.{Offer}
use Rattle.pool_machine.specs.declared.offer.Offer.TheVariants as offer
use Rattle.pool_machine.specs.PoolState.{answer}
use Rattle.pool_machine.proofs.PoolEvents.{refused_when_full}
use Rattle.pool_machine.specs.declared.parent.Parent.{Parent}
use Rattle.pool_machine.specs.declared.parent.Parent.TheVariants as parent
use Rattle.pool_machine.specs.declared.event.Event.{Event}
use Rattle.pool_machine.specs.declared.event.Outcome.{Outcome}
use Rattle.pool_machine.specs.declared.event.Outcome.TheVariants as outcome
use Rattle.pool_machine.specs.State.{State, pool_of, pool_part, pool_seen, threads}
use Rattle.pool_machine.specs.Step.{point, answered, submitted, step_action, step_at_point, step}
use Rattle.pool_machine.proofs.Events.{IsAtAction, event_of, Happens, is_rejected, happens, HasNoRoom}

-- the pool that rejected a job in the event with this outcome
abbrev rejecting_pool : Outcome → Option ℕ
rejecting_pool (outcome.Rejected p j) = Some p
rejecting_pool _ = None

answer_when_rejected : (plan : Plan) (s after : State) (a : Parent) (i k p j : ℕ) (given : Offer) → answered plan s a i k given ≡ (after, outcome.Rejected p j) → given ≡ offer.Refused
answer_when_rejected plan s after a i k p j offer.Started e = absurd (none-some p (ap (λ (x : State × Outcome). rejecting_pool x.1) e))
answer_when_rejected plan s after a i k p j offer.Queued e = absurd (none-some p (ap (λ (x : State × Outcome). rejecting_pool x.1) e))
answer_when_rejected plan s after a i k p j offer.Refused e = refl

step_of_actor : (plan : Plan) (s : State) (a : Parent) → step plan s (event_of a) ≡ step_at_point plan s a (point plan s a)
step_of_actor plan s (parent.Client c) = refl
step_of_actor plan s (parent.Job j) = refl

-- the step of an actor at a submit
step_at_submit : (plan : Plan) (s : State) (a : Parent) (body : List Action) (i k : ℕ) → IsAtAction plan s a body i (Some (action.Submit k)) → step plan s (event_of a) ≡ Some (submitted plan s a i k)
step_at_submit plan s a body i k at = step_of_actor plan s a ∙ ap (step_at_point plan s a) at.stands ∙ ap (step_action plan s a i) at.is_there

-- an actor at a submit to pool p, which has a full queue and max threads
pub record IsDeclined (plan : Plan) (s : State) (p : ℕ) : Type 0 where
  pub actor : Parent
  pub body : List Action
  pub position : ℕ
  pub class : ℕ
  pub at : IsAtAction plan s actor body position (Some (action.Submit class))
  pub of_pool : pool_of plan class ≡ p
  pub no_room : HasNoRoom plan s (pool_of plan class)
  pub all_started : (pool_at plan (pool_of plan class)).max ≤ threads plan s (pool_of plan class)

declined : (plan : Plan) (s after : State) (event : Event) (p j : ℕ) → Happens plan s event after (outcome.Rejected p j) → step plan s event ≡ Some (after, outcome.Rejected p j) → IsDeclined plan s p
declined plan s after event p j (is_rejected a body i k at may) is_step =
    let same = same_Some (submitted plan s a i k) (after, outcome.Rejected p j) (sym (step_at_submit plan s a body i k at) ∙ is_step) in
    let full = refused_when_full (pool_seen plan s (pool_of plan k)) (answer_when_rejected plan s after a i k p j (answer (pool_seen plan s (pool_of plan k))) same) in
    record { actor = a; body = body; position = i; class = k; at = at; of_pool = refl; no_room = (full.0, full.1); all_started = full.2 }

-- if a pool rejects a job in an event, an actor is at a submit to this pool, which has a full queue and max threads
pub rejected_when : (plan : Plan) (s after : State) (event : Event) (p j : ℕ) → step plan s event ≡ Some (after, outcome.Rejected p j) → IsDeclined plan s p
rejected_when plan s after event p j is_step = declined plan s after event p j (happens plan s event after (outcome.Rejected p j) is_step) is_step
