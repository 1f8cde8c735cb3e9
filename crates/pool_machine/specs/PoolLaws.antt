-- The laws of a single pool, and when a property of pools is an invariant.
use Rattle.std.specs.Prelude.{◌≡◌, IsTrue, false, ℕ, ◌+◌, ◌<◌, ◌≤◌, ◌↔◌, ◌⊎◌, [], length, Some, None}
use Rattle.job_bodies.specs.Plan.{Pool, first_workers}
use Rattle.pool_machine.specs.declared.offer.Offer.TheVariants.{Refused}
use Rattle.pool_machine.specs.PoolState.{PoolView, new_pool, least_threads, queue_limit, answer, offered, taken, finished, retired}

-- the property `holds` is an invariant: if it holds before an operation, it holds afterwards. The operations are an offer, a
-- take, the finish of a busy worker and a retirement.
pub record IsInvariant (holds : PoolView → Type 0) : Type 0 where
  pub by_offer : (pool : PoolView) (job : ℕ) → holds pool → holds (offered pool job)
  pub by_take : (pool after : PoolView) (job : ℕ) → taken pool ≡ Some (job, after) → holds pool → holds after
  pub by_finish : (pool : PoolView) → pool.idle < pool.threads → holds pool → holds (finished pool)
  pub by_retire : (pool after : PoolView) → retired pool ≡ Some after → holds pool → holds after

-- the pool has the same core, maximum and capacity as the pool `first`, and both agree whether their queues are unbounded and
-- whether their core threads may time out
pub record HasSizesOf (first pool : PoolView) : Type 0 where
  pub core : pool.core ≡ first.core
  pub max : pool.max ≡ first.max
  pub capacity : pool.capacity ≡ first.capacity
  pub unbounded : pool.unbounded ≡ first.unbounded
  pub core_timeout : pool.core_timeout ≡ first.core_timeout

-- if core is at least 1 and the pool has a queued job, it has at least core threads, or at least one if its core threads may
-- time out
abbrev pub QueuesHaveThreads : PoolView → Type 0
QueuesHaveThreads pool = 1 ≤ pool.core → 1 ≤ length pool.queue → least_threads pool ≤ pool.threads

-- the load of a pool: its threads plus its queued jobs
abbrev pub load : PoolView → ℕ
load pool = pool.threads + length pool.queue

-- how the load of a pool changes. The load of a new pool is the number of its prestarted threads. Only an offer increases the
-- load, by at most 1. A pool that refuses a job has a load of at least its capacity plus its maximum. The claim about a
-- retirement assumes that a pool whose core threads may time out has at most as many idle workers as threads.
pub record LoadIsOffered : Type 0 where
  pub at_start : (pool : Pool) → load (new_pool pool) ≡ first_workers pool
  pub by_offer : (pool : PoolView) (job : ℕ) → load (offered pool job) ≤ load pool + 1
  pub by_refusal : (pool : PoolView) → answer pool ≡ Refused → pool.capacity + pool.max ≤ load pool
  pub by_take : (pool after : PoolView) (job : ℕ) → taken pool ≡ Some (job, after) → load after < load pool
  pub by_finish : (pool : PoolView) → load (finished pool) ≡ load pool
  pub by_retire : (pool after : PoolView) → retired pool ≡ Some after → (IsTrue pool.core_timeout → pool.idle ≤ pool.threads) → load after < load pool

-- when the operations of the pool fail. It refuses a job exactly when its queue is bounded and full and it has its maximum of
-- threads. A take fails exactly when no worker is idle or the queue is empty. A retirement fails exactly when no worker is
-- idle, when the pool needs its threads, or when its queue is bounded with capacity 0 and each idle worker has a job in it. The
-- pool needs its threads if it has at most core threads and these may not time out. If they may time out, the pool needs its
-- thread if it has only one and a job is queued.
pub record FailureConditions (pool : PoolView) : Type 0 where
  pub refuses : answer pool ≡ Refused ↔ (pool.unbounded ≡ false) × (length pool.queue ≡ queue_limit pool.capacity pool.idle) × (pool.threads ≡ pool.max)
  pub takes_none : taken pool ≡ None ↔ (pool.idle ≡ 0) ⊎ (pool.queue ≡ [])
  pub ends_none : retired pool ≡ None ↔ (pool.idle ≡ 0) ⊎ ((pool.threads ≤ pool.core) × ((pool.core_timeout ≡ false) ⊎ ((pool.threads ≤ 1) × (1 ≤ length pool.queue)))) ⊎ ((pool.unbounded ≡ false) × (pool.capacity ≡ 0) × (pool.idle ≡ length pool.queue))
