-- The lines so far, followed by those of the remaining pools, are all lines.
use Rattle.std.proofs.Common.{◌≡◌, ◌++◌}
use Rattle.cert_check.specs.Verdict.{pool_line}
use Rattle.cert_check.proofs.Pools.{rest_of_results}
use Rattle.cert_check.proofs.judge.pool_lines.Given as goal

abbrev pub invariant-loop-pool : goal.invariant-loop-pool
invariant-loop-pool l = l.lines.items ++ rest_of_results (pool_line l.plan l.cert) l.plan.pools l.pool ≡ rest_of_results (pool_line l.plan l.cert) l.plan.pools 0
