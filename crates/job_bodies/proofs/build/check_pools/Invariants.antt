use Rattle.std.proofs.Common.{◌≡◌, drop, map, take}
use Rattle.support.specs.Reading.{check_each}
use Rattle.job_bodies.specs.Checks.{check_pool}
use Rattle.job_bodies.proofs.build.check_pools.Given as goal

abbrev pub invariant-loop-index : goal.invariant-loop-index
invariant-loop-index l = check_each (λ index. check_pool (take index (map (λ pool. pool.name) l.pools)) index) l.index (drop l.index l.pools) ≡ check_each (λ index. check_pool (take index (map (λ pool. pool.name) l.pools)) index) 0 l.pools
