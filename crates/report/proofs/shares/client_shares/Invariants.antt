-- The shares so far and those of the remaining kinds are all shares.
use Rattle.std.proofs.Common.{◌≡◌, ◌++◌, ◌*◌}
use Rattle.weights.specs.Vector.{client_weight}
use Rattle.report.proofs.ShareSums.{rest_given}
use Rattle.report.proofs.shares.client_shares.Given as goal

abbrev pub invariant-loop-number : goal.invariant-loop-number
invariant-loop-number l = l.shares.items ++ rest_given (λ entry. entry.1.count * client_weight l.vector entry.0 0) l.plan.clients l.number ≡ rest_given (λ entry. entry.1.count * client_weight l.vector entry.0 0) l.plan.clients 0
