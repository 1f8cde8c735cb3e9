use Rattle.std.proofs.Common.{◌≡◌, map, take}
use Rattle.pool_machine.specs.PoolState.{new_pool}
use Rattle.interleaving.proofs.pools.new_pools.Given as goal

abbrev pub invariant-loop-pool : goal.invariant-loop-pool
invariant-loop-pool l = l.new.items ≡ map new_pool (take l.pool-index l.pools)
