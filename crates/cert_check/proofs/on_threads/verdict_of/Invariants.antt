-- The lines so far, followed by those of the remaining pools, are all lines. `yes` so far, together with the tests of the remaining pools,
-- is the final `yes`.
use Rattle.std.proofs.Common.{◌≡◌, ◌++◌, ◌&&◌}
use Rattle.soundness.specs.Conditions.{failing}
use Rattle.soundness.specs.Accepted.{is_nil}
use Rattle.cert_check.specs.Verdict.{pool_line}
use Rattle.cert_check.specs.PoolConditions.{pool_holds}
use Rattle.cert_check.proofs.Pools.{rest_of_results, rest_passes}
use Rattle.cert_check.proofs.on_threads.verdict_of.Given as goal

abbrev pub invariant-loop-pool : goal.invariant-loop-pool
invariant-loop-pool l = record {
  lines : l.pools.items ++ rest_of_results (pool_line l.plan l.cert) l.plan.pools l.pool ≡ rest_of_results (pool_line l.plan l.cert) l.plan.pools 0;
  decides : (l.yes && rest_passes (pool_holds l.plan l.cert) l.plan.pools l.pool) ≡ is_nil (failing l.plan l.cert);
}
