-- The loop of `submit_without_get`: no position before the current one has such a submit without a get.
use Rattle.std.proofs.Common.{◌≡◌, ℕ, ◌<◌}
use Rattle.size_search.specs.Submitted.{IsNeverGot, goes_without_bound}
use Rattle.size_search.proofs.causes.submit_without_get.Given as goal

abbrev pub invariant-loop-position : goal.invariant-loop-position
invariant-loop-position l = (i : ℕ) → i < l.position → IsNeverGot l.body i → ¬ (goes_without_bound l.plan l.body i ≡ l.without_bound)
