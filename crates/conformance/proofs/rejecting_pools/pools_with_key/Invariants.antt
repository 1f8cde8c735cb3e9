use Rattle.std.proofs.Common.{◌≡◌, true, map, take}
use Rattle.conformance.specs.RejectingPools.{with_key}
use Rattle.conformance.proofs.rejecting_pools.pools_with_key.Given as goal

abbrev pub invariant-loop-pool : goal.invariant-loop-pool
invariant-loop-pool l = l.keyed.items ≡ map (with_key true) (take l.pool-index l.pools)
