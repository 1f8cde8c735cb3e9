-- The effective plan of a plan: the plan that results from reading a text of the plan. It differs from the plan only in sizes
-- that have no effect.
use Rattle.std.specs.Prelude.{if◌then◌else◌, map}
use Rattle.job_bodies.specs.declared.limits.TheConstants.{MAX_SIZE}
use Rattle.job_bodies.specs.Plan.{Pool, Plan}

-- the effective pool of a pool. If the queue is unbounded, sizes without an effect are replaced: the capacity by the largest
-- size and, unless core threads may time out, the maximum by core.
abbrev pub effective_pool : Pool → Pool
effective_pool pool =
    if pool.unbounded then record pool { max = if pool.core_timeout then pool.max else pool.core; queue = MAX_SIZE } else pool

-- the plan with each pool replaced by its effective pool; it is the plan itself if no pool of the plan has an unbounded queue
abbrev pub effective_plan : Plan → Plan
effective_plan plan = record plan { pools = map effective_pool plan.pools }
