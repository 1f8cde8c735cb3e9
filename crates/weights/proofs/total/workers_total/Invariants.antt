-- The loop of `workers_total`: the sum so far plus the remaining terms is the total.
use Rattle.std.proofs.Common.{◌≡◌, ◌≤◌, ◌+◌, ◌*◌, drop}
use Rattle.std.specs.Prelude.{sum_by}
use Rattle.std.specs.List.{enumerate_from}
use Rattle.job_bodies.specs.declared.limits.TheConstants.{MAX_THREADS, MAX_WEIGHT}
use Rattle.weights.specs.Vector.{workers_weight}
use Rattle.weights.proofs.total.workers_total.Given as goal

abbrev pub invariant-loop-number : goal.invariant-loop-number
invariant-loop-number l = record {
  value : l.total + sum_by (λ entry. workers_weight l.vector entry.0 * entry.1.max) (enumerate_from l.number (drop l.number l.plan.pools)) ≡ sum_by (λ entry. workers_weight l.vector entry.0 * entry.1.max) (enumerate_from 0 l.plan.pools);
  bound : l.total ≤ l.number * (MAX_WEIGHT * MAX_THREADS);
}
