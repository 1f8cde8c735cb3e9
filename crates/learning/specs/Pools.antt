-- The pools of a recording, as pools of a plan.
use Rattle.std.specs.Prelude.{◌≡◌, ℕ, Bool, not, ◌&&◌, ◌==◌, nat_lt, List, [], ◌∷◌, filter, map, Option, Some, None, if◌then◌else◌, ◌++◌, min, max}
use Rattle.std.specs.List.{filter_map, list_any}
use Rattle.std.specs.Str.{bytes_eq}
use Rattle.job_bodies.specs.Plan.{Plan, Pool}
use Rattle.job_bodies.specs.declared.limits.TheConstants.{MAX_SIZE, MAX_THREADS}
use Rattle.recordings.specs.declared.pool_sizes.PoolSizes.{PoolSizes}
use Rattle.recordings.specs.PoolSizes.{has_unbounded_queue}
use Rattle.conformance.specs.RejectingPools.{with_rejecting_pools}
use Rattle.conformance.specs.Sizes.{is_synchronous}
use Rattle.recordings.specs.RecordingLine as line
use Rattle.recordings.specs.RecordingLine.{RecordedLine}

-- ---- one pool
-- The number, clamped to the range from `low` to 1,000,000.
abbrev pub into_range : ℕ → ℕ → ℕ
into_range low number = max (min number MAX_SIZE) low

-- When the pool's recording began, all its core threads existed, and there was at least one.
abbrev pub has_core_threads : PoolSizes → Bool
has_core_threads sizes = not (sizes.prestarted == 0) && (sizes.prestarted == sizes.core)

-- The least capacity of the queue in a plan: 0 for a `SynchronousQueue`, and otherwise 1.
abbrev pub least_capacity : PoolSizes → ℕ
least_capacity sizes = if is_synchronous sizes.queue then 0 else 1

-- The maximum of a pool with this core and an unbounded queue. If core threads never time out, the maximum has no effect, and
-- it is the core. Otherwise, a pool whose recorded maximum is above the largest size of a plan has no maximum.
abbrev pub max_over_unbounded : ℕ → PoolSizes → ℕ
max_over_unbounded core sizes = if not sizes.timeout then core else (if nat_lt MAX_SIZE sizes.max then MAX_THREADS else into_range core sizes.max)

-- The maximum of a pool with this core.
abbrev pub planned_max : ℕ → PoolSizes → ℕ
planned_max core sizes = if has_unbounded_queue sizes then max_over_unbounded core sizes else into_range core sizes.max

-- The capacity of the queue. If the queue is unbounded, the capacity has no effect, and it is the largest size of a plan.
abbrev pub planned_queue : PoolSizes → ℕ
planned_queue sizes = if has_unbounded_queue sizes then MAX_SIZE else into_range (least_capacity sizes) sizes.capacity

-- The pool of a `pool` line, with each size clamped to its range in a plan (see `planned_max` and `planned_queue`). Core
-- threads may time out if the line says so, and an unbounded queue stays unbounded. A pool with a `SynchronousQueue` may
-- reject jobs, because in a plan only such a pool can have this queue.
abbrev pub recorded_pool : List ℕ → PoolSizes → Pool
recorded_pool name sizes = let core = into_range 1 sizes.core in
    record { name = name; core = core; max = planned_max core sizes; queue = planned_queue sizes; prestart = has_core_threads sizes; may_reject = is_synchronous sizes.queue; unbounded = has_unbounded_queue sizes; core_timeout = sizes.timeout }

-- ---- all pools
-- The pool of a `pool` line, or `None` for any other line.
abbrev pub pool_of_line : RecordedLine → Option Pool
pool_of_line (line.Pool name sizes) = Some (recorded_pool name sizes)
pool_of_line other = None

-- The two pools have different names.
abbrev pub has_other_name : Pool → Pool → Bool
has_other_name pool other = not (bytes_eq pool.name other.name)

-- The first pool of each name, in order.
abbrev pub firsts : List Pool → List Pool
firsts [] = []
firsts (pool ∷ pools) = pool ∷ filter (has_other_name pool) (firsts pools)

-- The pool of the first `pool` line of each name, in the order of the lines.
unfoldable pub recorded_pools : List RecordedLine → List Pool
recorded_pools lines = firsts (filter_map pool_of_line lines)

-- ---- sizes without an effect
-- The pool with the sizes that the text of a plan gives it. If its queue is unbounded, the capacity is the largest size, and
-- the maximum is core unless core threads may time out. The replaced sizes have no effect. Any other pool is unchanged.
abbrev pub normal_pool : Pool → Pool
normal_pool pool = if pool.unbounded then record pool { max = if pool.core_timeout then pool.max else pool.core; queue = MAX_SIZE } else pool

-- If the pools of a plan are those of a recording, `normal_pool` changes none of them, even after each pool that rejects jobs
-- in the recording is marked as one that may reject jobs.
abbrev pub LearnedPoolsAreNormal : Type 0
LearnedPoolsAreNormal = (plan : Plan) (lines : List RecordedLine) → plan.pools ≡ recorded_pools lines → map normal_pool (with_rejecting_pools plan lines).pools ≡ (with_rejecting_pools plan lines).pools

-- ---- one more pool
-- Some pool has this name.
abbrev pub has_name : List ℕ → List Pool → Bool
has_name name pools = list_any (λ pool. bytes_eq pool.name name) pools

-- The list with the pool appended, unless a pool of the list has its name.
abbrev pub with_first : List Pool → Pool → List Pool
with_first pools pool = if has_name pool.name pools then pools else pools ++ pool ∷ []

-- The list with the pool appended, if there is one and no pool of the list has its name.
abbrev pub with_first_of : Option Pool → List Pool → List Pool
with_first_of (Some pool) pools = with_first pools pool
with_first_of None pools = pools
