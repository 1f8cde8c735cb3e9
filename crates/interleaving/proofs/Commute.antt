-- Steps commute with the live view.
use Rattle.std.proofs.Common.{◌≡◌, ℕ, ◌+◌, Option, Some, None, slice_get, List, refl, sym, ap, ◌∙◌}
use Rattle.std.specs.Option.{option_map}
use Rattle.job_bodies.specs.declared.action.Action.{Action}
use Rattle.job_bodies.specs.declared.action.Action.TheVariants.{Work, Submit, Get}
use Rattle.job_bodies.specs.Plan.{Plan}
use Rattle.job_bodies.proofs.Bodies.{HasValidBodies}
use Rattle.pool_machine.specs.declared.parent.Parent.{Parent}
use Rattle.pool_machine.specs.declared.parent.Parent.TheVariants as parent
use Rattle.pool_machine.specs.declared.event.Event.{Event}
use Rattle.pool_machine.specs.declared.event.Event.TheVariants as event
use Rattle.pool_machine.specs.declared.event.Outcome.TheVariants as outcome
use Rattle.pool_machine.specs.State.{State}
use Rattle.pool_machine.specs.Step.{Point, point, step_at_end, step_action, step_at_point, step}
use Rattle.pool_machine.proofs.StateInvariant.{StateInvariant}
use Rattle.pool_machine.proofs.Positions.{valid_point, standing_made}
use Rattle.pool_machine.proofs.Queues.{pool_of_made}
use Rattle.interleaving.specs.LiveView.{View, live_view}
use Rattle.interleaving.specs.ViewStep.{step_at_end_in, step_action_in, step_actor, view_step}
use Rattle.interleaving.specs.Laws.{seen_after}
use Rattle.interleaving.proofs.View.{point_seen}
use Rattle.interleaving.proofs.ViewMoves.{move_seen, loop_commutes, get_commutes}
use Rattle.interleaving.proofs.Submits.{submit_commutes}
use Rattle.interleaving.proofs.OlderAreClaimed.{AllOlderAreClaimed}
use Rattle.interleaving.proofs.Finishes.{finish_commutes}
use Rattle.interleaving.proofs.ViewPools.{take_commutes, retire_commutes}

module _ (plan : Plan) (s : State) (ordered : HasValidBodies plan) (kept : StateInvariant plan s) (settled : AllOlderAreClaimed plan s) where
  end_commutes : (a : Parent) (body : List Action) (i : ℕ) → point plan s a ≡ Some (record { body = body; position = i }) → option_map (seen_after plan) (step_at_end plan s a) ≡ step_at_end_in plan (live_view plan s) a
  end_commutes (parent.Client c) body i stands = loop_commutes plan s c (slice_get s.clients c)
  end_commutes (parent.Job j) body i stands = finish_commutes plan s j body i kept settled stands (pool_of_made plan s j ordered kept (standing_made plan s j body i stands))

  act_commutes : (a : Parent) (body : List Action) (i : ℕ) (action : Option Action) → point plan s a ≡ Some (record { body = body; position = i }) → slice_get body i ≡ action
      → option_map (seen_after plan) (step_action plan s a i action) ≡ step_action_in plan (live_view plan s) a i action
  act_commutes a body i None stands there = end_commutes a body i stands
  act_commutes a body i (Some (Work u)) stands there = ap (λ (v : View). Some (v, outcome.Worked u)) (move_seen plan s a body i (i + 1) stands)
  act_commutes a body i (Some (Submit k)) stands there =
      let valid = valid_point plan s a body i ordered stands in
      ap Some (submit_commutes plan s a body i k kept stands (ordered.pools k (valid.submit i k there)))
  act_commutes a body i (Some (Get t)) stands there = get_commutes plan s a body i t (valid_point plan s a body i ordered stands) kept stands there

  stand_commutes : (a : Parent) (o : Option Point) → point plan s a ≡ o → option_map (seen_after plan) (step_at_point plan s a o) ≡ step_actor plan (live_view plan s) a o
  stand_commutes a None stands = refl
  stand_commutes a (Some at) stands = act_commutes a at.body at.position (slice_get at.body at.position) stands refl

  actor_commutes : (a : Parent) → option_map (seen_after plan) (step_at_point plan s a (point plan s a)) ≡ step_actor plan (live_view plan s) a (point plan s a)
  actor_commutes a = stand_commutes a (point plan s a) refl

  pub step_commutes : (e : Event) → option_map (seen_after plan) (step plan s e) ≡ view_step plan (live_view plan s) e
  step_commutes (event.Client c) = actor_commutes (parent.Client c) ∙ sym (ap (step_actor plan (live_view plan s) (parent.Client c)) (point_seen plan s (parent.Client c)))
  step_commutes (event.Job j) = actor_commutes (parent.Job j) ∙ sym (ap (step_actor plan (live_view plan s) (parent.Job j)) (point_seen plan s (parent.Job j)))
  step_commutes (event.Take p) = take_commutes plan s p kept
  step_commutes (event.Retire p) = retire_commutes plan s p kept
