-- Lemmas about a pool before and after each operation.
use Rattle.std.specs.Prelude.{◌==◌, nat_lt, nat_le}
use Rattle.std.proofs.Common.{◌≡◌, Bool, true, false, ◌&&◌, ◌||◌, ℕ, zero, suc, ◌-◌, ◌<◌, ◌≤◌, ◌⊎◌, inl, inr, ◌∷◌, length, Some, refl, subst, arith}
use Rattle.std.proofs.lemmas.Bool.{and_parts, or_cases, ltb-true, leb-true, eqb-true}
use Rattle.std.proofs.lemmas.Option.{none-some, cond_some}
use Rattle.std.proofs.lemmas.Grind.{common_steps}
use Rattle.pool_machine.specs.declared.offer.Offer.TheVariants.{Started, Queued, Refused}
use Rattle.pool_machine.specs.PoolState.{PoolView, IsSound, queue_limit, room_limit, answer, taken, has_spare_thread, has_spare_worker, may_retire, retired_of, retired}

-- if a new thread starts the job, the pool had fewer than core threads, or fewer than its maximum and a bounded queue
pub started_below : (pool : PoolView) → answer pool ≡ Started → (pool.threads < pool.core) ⊎ ((pool.threads < pool.max) × (pool.unbounded ≡ false))
started_below pool e = grind (arith, common_steps)

-- if the job is queued, the pool had at least core threads, and room in the queue
pub queued_at_core : (pool : PoolView) → answer pool ≡ Queued → (pool.core ≤ pool.threads) × (length pool.queue < room_limit pool.unbounded pool.capacity pool.idle (length pool.queue))
queued_at_core pool e = grind (arith, common_steps)

-- if the job is refused, the queue was bounded with at least as many jobs as its capacity, and the pool had its maximum of threads
pub refused_when_full : (pool : PoolView) → answer pool ≡ Refused → (pool.unbounded ≡ false) × (pool.capacity ≤ length pool.queue) × (pool.max ≤ pool.threads)
refused_when_full pool e = grind (arith, common_steps)

-- an idle worker takes the head of the queue, and the rest of the pool is unchanged
pub record Takes (pool after : PoolView) (job : ℕ) : Type 0 where
  pub idle : pool.idle ≡ suc after.idle
  pub queue : pool.queue ≡ job ∷ after.queue
  pub core : after.core ≡ pool.core
  pub max : after.max ≡ pool.max
  pub capacity : after.capacity ≡ pool.capacity
  pub unbounded : after.unbounded ≡ pool.unbounded
  pub core_timeout : after.core_timeout ≡ pool.core_timeout
  pub threads : after.threads ≡ pool.threads

pub taken_takes : (pool after : PoolView) (job : ℕ) → taken pool ≡ Some (job, after) → Takes pool after job
taken_takes pool after job e = grind (arith, common_steps)

-- the pool has a thread that it does not need: it has more than core threads, or core threads may time out and it has another thread or
-- no queued job
abbrev pub HasSpareThread : PoolView → Type 0
HasSpareThread pool = (pool.core < pool.threads) ⊎ ((pool.core_timeout ≡ true) × ((1 < pool.threads) ⊎ (length pool.queue ≡ 0)))

-- an idle worker of a pool that does not need it ends, and the rest of the pool is unchanged
pub record Retires (pool after : PoolView) : Type 0 where
  pub spare : HasSpareThread pool
  pub idle : pool.idle ≡ suc after.idle
  pub threads : after.threads ≡ pool.threads - 1
  pub core : after.core ≡ pool.core
  pub max : after.max ≡ pool.max
  pub capacity : after.capacity ≡ pool.capacity
  pub unbounded : after.unbounded ≡ pool.unbounded
  pub core_timeout : after.core_timeout ≡ pool.core_timeout
  pub queue : after.queue ≡ pool.queue
  pub not_handed : pool.unbounded ≡ false → pool.capacity ≡ 0 → length pool.queue ≤ after.idle

spare_thread_means : (pool : PoolView) → has_spare_thread pool ≡ true → HasSpareThread pool
spare_thread_means pool e = elim (or_cases (nat_lt pool.core pool.threads) (pool.core_timeout && (nat_lt 1 pool.threads || length pool.queue == 0)) e) [
  | inl above ↦ inl (ltb-true pool.core pool.threads above)
  | inr timeout ↦
      let parts = and_parts pool.core_timeout (nat_lt 1 pool.threads || length pool.queue == 0) timeout in
      inr (
        parts.0,
        elim (or_cases (nat_lt 1 pool.threads) (length pool.queue == 0) parts.1) [
          | inl another ↦ inl (ltb-true 1 pool.threads another)
          | inr none ↦ inr (eqb-true (length pool.queue) 0 none)
        ],
      )
]

-- in a bounded queue of capacity 0, each job still has an idle worker if the worker that ends was handed none
pub spare_worker_means : (unbounded : Bool) (capacity queued idle : ℕ) → (unbounded || nat_lt 0 capacity || nat_le queued idle) ≡ true → unbounded ≡ false → capacity ≡ 0 → queued ≤ idle
spare_worker_means true capacity queued idle e bounded none = absurd cc
spare_worker_means false capacity queued idle e bounded none = elim (or_cases (nat_lt 0 capacity) (nat_le queued idle) e) [
  | inl some ↦ let more = ltb-true 0 capacity some in absurd (omega arith)
  | inr few ↦ leb-true queued idle few
]

retired_of_retires : (pool after : PoolView) (idle : ℕ) → pool.idle ≡ idle → retired_of pool idle ≡ Some after → Retires pool after
retired_of_retires pool after zero is_idle e = absurd (none-some after e)
retired_of_retires pool after (suc idle) is_idle e =
    let ended : PoolView = record pool { threads = pool.threads - 1; idle = idle } in
    let found = cond_some (may_retire pool idle) ended after e in
    let parts = and_parts (has_spare_thread pool) (has_spare_worker pool idle) found.0 in
    let retires : Retires pool ended = record {
      spare = spare_thread_means pool parts.0;
      idle = is_idle;
      threads = refl;
      core = refl;
      max = refl;
      capacity = refl;
      unbounded = refl;
      core_timeout = refl;
      queue = refl;
      not_handed = spare_worker_means pool.unbounded pool.capacity (length pool.queue) idle parts.1;
    } in
    subst (Retires pool) found.1 retires

pub retired_retires : (pool after : PoolView) → retired pool ≡ Some after → Retires pool after
retired_retires pool after e = retired_of_retires pool after pool.idle refl e

-- if the queue is bounded and full, and the pool has its maximum of threads, the job is refused
pub full_refuses : (pool : PoolView) → pool.core ≤ pool.max → pool.unbounded ≡ false → length pool.queue ≡ queue_limit pool.capacity pool.idle → pool.threads ≡ pool.max → answer pool ≡ Refused
full_refuses pool sizes bounded full all_started = grind (arith, common_steps)

-- if a pool within its limits refuses the job, its queue is bounded and exactly full, and it has exactly its maximum of threads
pub refused_exactly : (pool : PoolView) → IsSound pool → answer pool ≡ Refused → (pool.unbounded ≡ false) × (length pool.queue ≡ queue_limit pool.capacity pool.idle) × (pool.threads ≡ pool.max)
refused_exactly pool sound e = grind (arith, common_steps)
