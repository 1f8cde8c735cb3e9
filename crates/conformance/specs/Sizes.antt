-- The differences between one `pool` line and a pool of the plan.
use Rattle.std.specs.Prelude.{◌≡◌, ◌<◌, ℕ, Bool, true, false, ◌==◌, ◌||◌, not, nat_lt, if◌then◌else◌, List, [], ◌∷◌, ◌++◌, IsTrue, IsFalse}
use Rattle.job_bodies.specs.declared.limits.TheConstants.{MAX_SIZE}
use Rattle.job_bodies.specs.Plan.{Pool, first_workers}
use Rattle.job_bodies.specs.WellFormed.{has_no_max}
use Rattle.recordings.specs.declared.pool_sizes.TheConstants.{UNBOUNDED_CAPACITY}
use Rattle.recordings.specs.declared.pool_sizes.PoolSizes.{PoolSizes}
use Rattle.recordings.specs.declared.pool_sizes.QueueKind.{QueueKind}
use Rattle.recordings.specs.declared.pool_sizes.QueueKind.TheVariants as queue
use Rattle.recordings.specs.PoolSizes.{is_linked}
use Rattle.conformance.specs.declared.difference.Difference.{Difference}
use Rattle.conformance.specs.declared.difference.Difference.TheVariants.{Core, Max, BoundedMax, KindOfQueue, Capacity, BoundedQueue, CoreTimeout, NoCoreTimeout, Prestarted}

-- The queue is a `SynchronousQueue`.
abbrev pub is_synchronous : QueueKind → Bool
is_synchronous queue.Array = false
is_synchronous queue.Linked = false
is_synchronous queue.Synchronous = true
is_synchronous queue.Priority = false
is_synchronous queue.Other = false

-- The queue is an `ArrayBlockingQueue` or a `LinkedBlockingQueue`.
abbrev pub is_array_or_linked : QueueKind → Bool
is_array_or_linked queue.Array = true
is_array_or_linked queue.Linked = true
is_array_or_linked queue.Synchronous = false
is_array_or_linked queue.Priority = false
is_array_or_linked queue.Other = false

-- A plan describes a queue of this kind by this capacity.
abbrev pub is_kind_of : ℕ → QueueKind → Bool
is_kind_of capacity kind = if capacity == 0 then is_synchronous kind else is_array_or_linked kind

-- The maximum of the plan's pool has an effect: its queue is bounded, or its core threads may time out.
abbrev pub uses_max : Pool → Bool
uses_max pool = not pool.unbounded || pool.core_timeout

-- The maximum in a `pool` line is that of the plan's pool. If the plan gives no maximum, the one in the line must be above
-- `MAX_SIZE`, the largest size in a plan.
abbrev pub is_planned_max : Pool → ℕ → Bool
is_planned_max pool recorded = if has_no_max pool then nat_lt MAX_SIZE recorded else recorded == pool.max

-- The maximum in a `pool` line is that of the plan's pool, or has no effect in the plan.
abbrev pub fits_max : Pool → ℕ → Bool
fits_max pool recorded = not (uses_max pool) || is_planned_max pool recorded

-- The difference to report for a recorded maximum that is not the plan's.
abbrev pub max_difference : ℕ → Pool → Difference
max_difference recorded pool = if has_no_max pool then BoundedMax recorded else Max recorded pool.max

-- The kind of the recorded queue fits the plan's queue. If the plan's queue is unbounded, only a `LinkedBlockingQueue` fits.
abbrev pub is_planned_kind : Pool → QueueKind → Bool
is_planned_kind pool kind = if pool.unbounded then is_linked kind else is_kind_of pool.queue kind

-- The capacity that a `pool` line gives for the plan's queue. For an unbounded queue, this is `UNBOUNDED_CAPACITY`.
abbrev pub planned_capacity : Pool → ℕ
planned_capacity pool = if pool.unbounded then UNBOUNDED_CAPACITY else pool.queue

-- The difference to report for a recorded queue capacity that is not the plan's.
abbrev pub capacity_difference : ℕ → Pool → Difference
capacity_difference recorded pool = if pool.unbounded then BoundedQueue recorded else Capacity recorded pool.queue

-- The `pool` line and the plan agree on whether core threads may time out.
abbrev pub is_planned_timeout : Pool → Bool → Bool
is_planned_timeout pool recorded = if pool.core_timeout then recorded else not recorded

-- The difference to report if the `pool` line and the plan disagree on whether core threads may time out.
abbrev pub timeout_difference : Pool → Difference
timeout_difference pool = if pool.core_timeout then NoCoreTimeout else CoreTimeout

-- A list with the difference, or an empty list if the recorded value and the plan agree.
abbrev pub unless : Bool → Difference → List Difference
unless agree difference = if agree then [] else difference ∷ []

-- All differences between a `pool` line and the plan's pool. The maximum size is compared only if it has an effect in the
-- plan. The number of prestarted threads is compared only in the first line of a pool. In the plan, it is the core size with
-- `prestart`, and 0 without it.
abbrev pub differences : Bool → PoolSizes → Pool → List Difference
differences is_first sizes pool =
    unless (sizes.core == pool.core) (Core sizes.core pool.core)
    ++ unless (fits_max pool sizes.max) (max_difference sizes.max pool)
    ++ unless (is_planned_kind pool sizes.queue) (KindOfQueue sizes.queue)
    ++ unless (sizes.capacity == planned_capacity pool) (capacity_difference sizes.capacity pool)
    ++ unless (is_planned_timeout pool sizes.timeout) (timeout_difference pool)
    ++ unless (not is_first || sizes.prestarted == first_workers pool) (Prestarted sizes.prestarted (first_workers pool))

-- The sizes in the `pool` line are those of the plan. The number of prestarted threads is compared only in the first line of
-- a pool.
pub record IsAsPlanned (is_first : Bool) (sizes : PoolSizes) (pool : Pool) : Type 0 where
  pub core : sizes.core ≡ pool.core
  pub max : IsTrue (uses_max pool) → IsFalse (has_no_max pool) → sizes.max ≡ pool.max
  pub no_max : IsTrue (has_no_max pool) → MAX_SIZE < sizes.max
  pub kind_of_queue : IsTrue (is_planned_kind pool sizes.queue)
  pub capacity : sizes.capacity ≡ planned_capacity pool
  pub timeout : sizes.timeout ≡ pool.core_timeout
  pub prestarted : is_first ≡ true → sizes.prestarted ≡ first_workers pool
