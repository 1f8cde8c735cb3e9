-- The loop of `lost_by_jobs`: no submitted class before the current one has such a submit without a get.
use Rattle.std.proofs.Common.{ℕ, ◌<◌}
use Rattle.size_search.specs.Submitted.{LostByJobs}
use Rattle.size_search.proofs.causes.lost_by_jobs.Given as goal

abbrev pub invariant-loop-number : goal.invariant-loop-number
invariant-loop-number l = (k i : ℕ) → k < l.number → ¬ LostByJobs l.plan l.without_bound k i
