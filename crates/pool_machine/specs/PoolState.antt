-- The state of a single pool, and its four operations. The rules are those of the Javadoc of ThreadPoolExecutor under "Core and
-- maximum pool sizes", "Queuing" and "Rejected tasks".
use Rattle.std.specs.Prelude.{ℕ, zero, suc, ◌+◌, ◌-◌, ◌≤◌, ◌==◌, ◌&&◌, ◌||◌, Bool, nat_lt, nat_le, if◌then◌else◌, List, [], ◌∷◌, ◌++◌, length, Option, None, Some}
use Rattle.job_bodies.specs.declared.limits.TheConstants.{MAX_SIZE}
use Rattle.job_bodies.specs.WellFormed.{largest_max}
use Rattle.job_bodies.specs.Plan.{Pool, first_workers}
use Rattle.pool_machine.specs.declared.offer.Offer.{Offer}
use Rattle.pool_machine.specs.declared.offer.Offer.TheVariants.{Started, Queued, Refused}

-- a pool: its sizes, its threads and its queue. `unbounded` says whether its queue is unbounded; the capacity then has no
-- effect. `core_timeout` says whether its core threads may time out. `threads` is the number of its threads, of which `idle`
-- are idle. `queue` has the numbers of the queued jobs, the head first.
pub record PoolView : Type 0 where
  pub core : ℕ
  pub max : ℕ
  pub capacity : ℕ
  pub unbounded : Bool
  pub core_timeout : Bool
  pub threads : ℕ
  pub idle : ℕ
  pub queue : List ℕ

-- a new pool, with an empty queue. It has core idle workers if they are prestarted, and otherwise no threads.
abbrev pub new_pool : Pool → PoolView
new_pool pool = record { core = pool.core; max = pool.max; capacity = pool.queue; unbounded = pool.unbounded; core_timeout = pool.core_timeout; threads = first_workers pool; idle = first_workers pool; queue = [] }

-- the least number of threads that the pool has while a job is in its queue: core, or 1 if core threads may time out
abbrev pub least_threads : PoolView → ℕ
least_threads pool = if pool.core_timeout then 1 else pool.core

-- the maximum number of jobs in a bounded queue, given its capacity and the number of idle workers of its pool. It is the
-- capacity or, if this is 0, one job for each idle worker. A queue of capacity 0 is a SynchronousQueue, which holds a job for a
-- worker until the worker takes it.
abbrev pub queue_limit : ℕ → ℕ → ℕ
queue_limit capacity idle = if capacity == 0 then idle else capacity

-- the number of jobs below which a queue has room for one more job. For a bounded queue, it is `queue_limit`. For an unbounded
-- queue, it is above `queued`, the present number of jobs, so the queue always has room.
abbrev pub room_limit : Bool → ℕ → ℕ → ℕ → ℕ
room_limit unbounded capacity idle queued = if unbounded then queued + 1 else queue_limit capacity idle

-- whether the queue has room for one more job
abbrev pub has_room : PoolView → Bool
has_room pool = nat_lt (length pool.queue) (room_limit pool.unbounded pool.capacity pool.idle (length pool.queue))

-- the answer of the pool to an offered job. With fewer than core threads, a new thread starts the job. Otherwise the job is
-- queued if the queue has room. Otherwise, with fewer than the maximum of threads, a new thread starts the job. Otherwise the
-- job is refused.
abbrev pub answer : PoolView → Offer
answer pool =
    if nat_lt pool.threads pool.core then Started
    else (if has_room pool then Queued
    else (if nat_lt pool.threads pool.max then Started
    else Refused))

-- the pool after it gave this answer to the offered job
abbrev pub apply_answer : PoolView → ℕ → Offer → PoolView
apply_answer pool job Started = record pool { threads = pool.threads + 1 }
apply_answer pool job Queued = record pool { queue = pool.queue ++ job ∷ [] }
apply_answer pool job Refused = pool

-- the pool after the job was offered to it
abbrev pub offered : PoolView → ℕ → PoolView
offered pool job = apply_answer pool job (answer pool)

abbrev pub taken_from : PoolView → ℕ → List ℕ → Option (ℕ × PoolView)
taken_from pool (suc idle) (job ∷ queue) = Some (job, record pool { idle = idle; queue = queue })
taken_from pool _ _ = None

-- the job at the head of the queue, and the pool after an idle worker took this job; None if no worker is idle or the queue is
-- empty
abbrev pub taken : PoolView → Option (ℕ × PoolView)
taken pool = taken_from pool pool.idle pool.queue

-- the pool after a busy worker became idle
abbrev pub finished : PoolView → PoolView
finished pool = record pool { idle = pool.idle + 1 }

-- whether the pool does not need all its threads: it has more than core threads, or its core threads may time out and it has
-- more than one thread or no queued job
abbrev pub has_spare_thread : PoolView → Bool
has_spare_thread pool = nat_lt pool.core pool.threads || (pool.core_timeout && (nat_lt 1 pool.threads || length pool.queue == 0))

-- whether this number of idle workers is enough for the queued jobs that were handed to idle workers. In a bounded queue of
-- capacity 0, each job was handed to an idle worker. In any other queue, no job was.
abbrev pub has_spare_worker : PoolView → ℕ → Bool
has_spare_worker pool idle = pool.unbounded || nat_lt 0 pool.capacity || nat_le (length pool.queue) idle

-- whether an idle worker may end: the pool does not need it, and it was handed no job. `idle` is the number of idle workers
-- that are then left.
abbrev pub may_retire : PoolView → ℕ → Bool
may_retire pool idle = has_spare_thread pool && has_spare_worker pool idle

abbrev pub retired_of : PoolView → ℕ → Option PoolView
retired_of pool zero = None
retired_of pool (suc idle) = if may_retire pool idle then Some (record pool { threads = pool.threads - 1; idle = idle }) else None

-- the pool after an idle worker ended. It is None if no worker is idle, the pool needs its threads, or its queue is bounded
-- with capacity 0 and each idle worker has a job in it.
abbrev pub retired : PoolView → Option PoolView
retired pool = retired_of pool pool.idle

-- the invariant of a pool. Its core, maximum and capacity are in their ranges, and the capacity can be 0. The numbers of its
-- idle workers, threads and queued jobs are within their limits.
pub record IsSound (pool : PoolView) : Type 0 where
  pub some_core : 1 ≤ pool.core
  pub core_within_max : pool.core ≤ pool.max
  pub max_within_limit : pool.max ≤ largest_max pool.core_timeout pool.unbounded
  pub capacity_within_limit : pool.capacity ≤ MAX_SIZE
  pub idle_within_threads : pool.idle ≤ pool.threads
  pub threads_within_max : pool.threads ≤ pool.max
  pub queue_within_limit : length pool.queue ≤ room_limit pool.unbounded pool.capacity pool.idle (length pool.queue)
