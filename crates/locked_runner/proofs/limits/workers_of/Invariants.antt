use Rattle.std.proofs.Common.{◌≡◌, ◌-◌, ◌^◌, sum_by, take, min}
use Rattle.locked_runner.specs.Carriers.{carriers}
use Rattle.locked_runner.proofs.limits.workers_of.Given as goal

abbrev pub invariant-loop-pool : goal.invariant-loop-pool
invariant-loop-pool l = l.total ≡ min (sum_by carriers (take l.pool-index l.plan.pools)) (2 ^ 64 - 1)
