-- The loop of `try_clone_pools`: the copies are the pools before the current one.
use Rattle.std.proofs.Common.{◌≡◌, take}
use Rattle.job_bodies.proofs.copies.try_clone_pools.Given as goal

abbrev pub invariant-loop-pool : goal.invariant-loop-pool
invariant-loop-pool l = l.copies.items ≡ take l.pool-index l.pools
