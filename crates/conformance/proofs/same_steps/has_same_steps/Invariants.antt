use Rattle.std.proofs.Common.{◌≡◌, ◌<◌, ℕ, true}
use Rattle.std.specs.Prelude.{slice_get}
use Rattle.conformance.specs.SameSteps.{is_same_step_at}
use Rattle.conformance.proofs.same_steps.has_same_steps.Given as goal

abbrev pub invariant-loop-index : goal.invariant-loop-index
invariant-loop-index l = (index : ℕ) → index < l.index → is_same_step_at (slice_get l.body index) (slice_get l.path index) ≡ true
