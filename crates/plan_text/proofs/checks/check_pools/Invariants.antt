use Rattle.std.proofs.Common.{◌≡◌, map, take}
use Rattle.support.proofs.Loops.{Checks}
use Rattle.job_bodies.specs.Checks as checks
use Rattle.plan_text.proofs.checks.check_pools.Given as goal

abbrev pub invariant-loop-index : goal.invariant-loop-index
invariant-loop-index l = record {
  names : l.names ≡ take l.index (map (λ pool. pool.name) l.pools);
  passed : Checks (λ index pool. checks.check_pool (take index (map (λ pool. pool.name) l.pools)) index pool) l.pools l.index;
}
