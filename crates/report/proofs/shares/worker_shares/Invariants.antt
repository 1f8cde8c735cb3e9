-- The shares so far and those of the remaining pools are all shares.
use Rattle.std.proofs.Common.{◌≡◌, ◌++◌, ◌*◌}
use Rattle.weights.specs.Vector.{workers_weight}
use Rattle.report.proofs.ShareSums.{rest_given}
use Rattle.report.proofs.shares.worker_shares.Given as goal

abbrev pub invariant-loop-number : goal.invariant-loop-number
invariant-loop-number l = l.shares.items ++ rest_given (λ entry. workers_weight l.vector entry.0 * entry.1.max) l.plan.pools l.number ≡ rest_given (λ entry. workers_weight l.vector entry.0 * entry.1.max) l.plan.pools 0
