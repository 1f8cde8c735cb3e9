-- The earlier pools passed, so the tests of the remaining pools give the result.
use Rattle.std.proofs.Common.{◌≡◌}
use Rattle.cert_check.specs.PoolConditions.{pool_holds}
use Rattle.cert_check.proofs.Pools.{rest_passes}
use Rattle.cert_check.proofs.acceptance.conditions_hold.Given as goal

abbrev pub invariant-loop-pool : goal.invariant-loop-pool
invariant-loop-pool l = rest_passes (pool_holds l.plan l.cert) l.plan.pools l.pool ≡ rest_passes (pool_holds l.plan l.cert) l.plan.pools 0
