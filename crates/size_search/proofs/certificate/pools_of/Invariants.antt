-- The list has one part for each pool before this one.
use Rattle.std.proofs.Common.{◌≡◌, map, take}
use Rattle.size_search.specs.Steady.{pool_of}
use Rattle.size_search.proofs.certificate.pools_of.Given as goal

abbrev pub invariant-loop-pool : goal.invariant-loop-pool
invariant-loop-pool l = l.pools.items ≡ map (pool_of l.vector) (take l.pool-index l.plan.pools)
