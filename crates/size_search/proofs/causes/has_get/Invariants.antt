-- No action before this one is a get.
use Rattle.std.proofs.Common.{◌≡◌, ℕ, ◌<◌, slice_get, Some}
use Rattle.job_bodies.specs.declared.action.Action.TheVariants.{Get}
use Rattle.size_search.proofs.causes.has_get.Given as goal

abbrev pub invariant-loop-action : goal.invariant-loop-action
invariant-loop-action l = (i t : ℕ) → i < l.action-index → ¬ (slice_get l.body i ≡ Some (Get t))
