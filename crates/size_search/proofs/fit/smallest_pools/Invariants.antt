-- The list has the smallest form of each pool before this one.
use Rattle.std.proofs.Common.{◌≡◌, map, take}
use Rattle.size_search.specs.Fitted.{smallest_pool}
use Rattle.size_search.proofs.fit.smallest_pools.Given as goal

abbrev pub invariant-loop-pool : goal.invariant-loop-pool
invariant-loop-pool l = l.small.items ≡ map smallest_pool (take l.pool-index l.plan.pools)
