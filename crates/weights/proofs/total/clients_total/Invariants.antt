-- The loop of `clients_total`: the sum so far plus the remaining terms is the total.
use Rattle.std.proofs.Common.{◌≡◌, ◌≤◌, ◌+◌, ◌*◌, drop}
use Rattle.std.specs.Prelude.{sum_by}
use Rattle.std.specs.List.{enumerate_from}
use Rattle.job_bodies.specs.declared.limits.TheConstants.{MAX_SIZE, MAX_WEIGHT}
use Rattle.weights.specs.Vector.{client_weight}
use Rattle.weights.proofs.total.clients_total.Given as goal

abbrev pub invariant-loop-number : goal.invariant-loop-number
invariant-loop-number l = record {
  value : l.total + sum_by (λ entry. entry.1.count * client_weight l.vector entry.0 0) (enumerate_from l.number (drop l.number l.plan.clients)) ≡ sum_by (λ entry. entry.1.count * client_weight l.vector entry.0 0) (enumerate_from 0 l.plan.clients);
  bound : l.total ≤ l.number * (MAX_SIZE * MAX_WEIGHT);
}
