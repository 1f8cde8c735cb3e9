use Rattle.std.proofs.Common.{◌≡◌, ℕ, ◌<◌, true}
use Rattle.std.specs.Prelude.{slice_get}
use Rattle.conformance.specs.Path.{is_submit_of}
use Rattle.conformance.specs.WalkState.{is_at}
use Rattle.conformance.proofs.walk_state.WalkState.can_submit.Given as goal

abbrev pub invariant-loop-index : goal.invariant-loop-index
invariant-loop-index l = (k : ℕ) → k < l.index → is_at l.self k ≡ true → is_submit_of l.class (slice_get l.body k) ≡ true → ⊥
