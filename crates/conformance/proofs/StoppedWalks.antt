-- Where no submit of the body is ahead.
use Rattle.std.proofs.Common.{◌≡◌, ℕ, ◌<◌, ◌≤◌, true, List, length, None, arith}
use Rattle.std.specs.Prelude.{slice_get}
use Rattle.std.proofs.lemmas.Option.{slice_get_within}
use Rattle.job_bodies.specs.declared.action.Action.{Action}
use Rattle.job_bodies.specs.declared.action.Action.TheVariants.{Submit}
use Rattle.conformance.specs.declared.step.ActorKind.{ActorKind}
use Rattle.conformance.specs.declared.step.PathStep.{PathStep}
use Rattle.conformance.specs.declared.walk_state.WalkState.{WalkState}
use Rattle.conformance.specs.Path.{is_submit_of}
use Rattle.conformance.specs.OpenExcess.{IsReason}
use Rattle.conformance.specs.WalkState.{is_at, CanSubmit}
use Rattle.conformance.proofs.WalkStates.{submit_is}

-- If none of the indices before the end of the body is such a submit, there is none.
pub cannot_at_end : (body : List Action) (class n : ℕ) (state : WalkState) → length body ≤ n → ((index : ℕ) → index < n → is_at state index ≡ true → is_submit_of class (slice_get body index) ≡ true → ⊥) → CanSubmit body class state → ⊥
cannot_at_end body class n state past none can =
    let lt = slice_get_within body can.0 (Submit class) (submit_is class (slice_get body can.0) can.2) in
    none can.0 (omega (arith, past, lt)) can.1 can.2

-- ---- no submit is ahead
module _ (kind : ActorKind) (body : List Action) (path : List PathStep) (place : ℕ) where
  -- Past the end of the path there is no step.
  pub none_ahead_at_end : place ≡ length path → IsReason kind body path place None
  none_ahead_at_end end submit ahead = let lt = slice_get_within path place ahead.step ahead.step_is in omega (arith, lt, end)
