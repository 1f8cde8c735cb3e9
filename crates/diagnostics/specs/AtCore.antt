-- Plans in which maximums are lowered to the core sizes of their pools.
use Rattle.std.specs.Prelude.{Bool, not, ◌&&◌, if◌then◌else◌, map}
use Rattle.std.specs.List.{list_any}
use Rattle.job_bodies.specs.Plan.{Pool, Plan}
use Rattle.diagnostics.specs.Lints.{grows_if_full}

-- the pool with its maximum lowered to its core size. A pool whose core threads may time out keeps its maximum, since it may
-- start threads above its core size even if its queue is never full
abbrev pub with_max_at_core : Pool → Pool
with_max_at_core pool = record pool { max = if pool.core_timeout then pool.max else pool.core }

-- the plan with each maximum lowered to the core size of its pool, except those of pools whose core threads may time out
abbrev pub at_core : Plan → Plan
at_core plan = record plan { pools = map with_max_at_core plan.pools }

-- the pool may reject jobs, and starts threads above its core size only if its queue is full. With a lower maximum it can
-- reject more jobs
abbrev pub grows_and_rejects : Pool → Bool
grows_and_rejects pool = grows_if_full pool && pool.may_reject

-- some pool starts threads above its core size only if its queue is full, and no such pool may reject jobs
abbrev pub can_be_lowered : Plan → Bool
can_be_lowered plan = list_any grows_if_full plan.pools && not (list_any grows_and_rejects plan.pools)
