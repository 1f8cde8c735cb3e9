-- The laws of a single pool as lemmas, for the proofs about the machine of many pools.
use Rattle.std.proofs.Common.{◌≡◌, ℕ, suc, ◌+◌, ◌-◌, ◌<◌, ◌≤◌, Bool, true, false, cond, inl, inr, length, Some, refl, ap, ◌∙◌, arith, rules}
use Rattle.std.proofs.lemmas.Grind.{common_steps}
use Rattle.std.specs.Prelude.{IsTrue}
use Rattle.job_bodies.specs.Plan.{Pool}
use Rattle.job_bodies.specs.WellFormed.{has_valid_sizes}
use Rattle.pool_machine.specs.PoolState.{PoolView, IsSound, new_pool, least_threads, answer, offered, taken, finished, retired}
use Rattle.pool_machine.specs.PoolLaws.{IsInvariant, HasSizesOf, QueuesHaveThreads, load, LoadIsOffered}
use Rattle.pool_machine.specs.declared.offer.Offer.TheVariants.{Refused}
use Rattle.pool_machine.proofs.PoolEvents.{HasSpareThread, refused_when_full, taken_takes, retired_retires}
use Rattle.pool_machine.proofs.QueueLimits.{still_within}

sizes_by_offer : (first pool : PoolView) (job : ℕ) → HasSizesOf first pool → HasSizesOf first (offered pool job)
sizes_by_offer first pool job same = grind (arith, common_steps)

sizes_by_take : (first pool after : PoolView) (job : ℕ) → taken pool ≡ Some (job, after) → HasSizesOf first pool → HasSizesOf first after
sizes_by_take first pool after job e same =
    let takes = taken_takes pool after job e in
    record {
      core = takes.core ∙ same.core;
      max = takes.max ∙ same.max;
      capacity = takes.capacity ∙ same.capacity;
      unbounded = takes.unbounded ∙ same.unbounded;
      core_timeout = takes.core_timeout ∙ same.core_timeout;
    }

sizes_by_finish : (first pool : PoolView) → pool.idle < pool.threads → HasSizesOf first pool → HasSizesOf first (finished pool)
sizes_by_finish first pool busy same = record { core = same.core; max = same.max; capacity = same.capacity; unbounded = same.unbounded; core_timeout = same.core_timeout }

sizes_by_retire : (first pool after : PoolView) → retired pool ≡ Some after → HasSizesOf first pool → HasSizesOf first after
sizes_by_retire first pool after e same =
    let retires = retired_retires pool after e in
    record {
      core = retires.core ∙ same.core;
      max = retires.max ∙ same.max;
      capacity = retires.capacity ∙ same.capacity;
      unbounded = retires.unbounded ∙ same.unbounded;
      core_timeout = retires.core_timeout ∙ same.core_timeout;
    }

pub sizes_kept : (first : PoolView) → IsInvariant (HasSizesOf first)
sizes_kept first = record { by_offer = sizes_by_offer first; by_take = sizes_by_take first; by_finish = sizes_by_finish first; by_retire = sizes_by_retire first }

pub new_pool_sound : (pool : Pool) → IsTrue (has_valid_sizes pool) → IsSound (new_pool pool)
new_pool_sound pool valid = search (rules, arith)

sound_by_offer : (pool : PoolView) (job : ℕ) → IsSound pool → IsSound (offered pool job)
sound_by_offer pool job sound = grind (arith, common_steps)

sound_by_take : (pool after : PoolView) (job : ℕ) → taken pool ≡ Some (job, after) → IsSound pool → IsSound after
sound_by_take pool after job e sound = grind (arith, common_steps)

sound_by_finish : (pool : PoolView) → pool.idle < pool.threads → IsSound pool → IsSound (finished pool)
sound_by_finish pool busy sound = grind (arith, common_steps)

sound_by_retire : (pool after : PoolView) → retired pool ≡ Some after → IsSound pool → IsSound after
sound_by_retire pool after e sound =
    let retires = retired_retires pool after e in
    record {
      some_core = rw retires.core sound.some_core;
      core_within_max = rw (retires.core, retires.max) sound.core_within_max;
      max_within_limit = rw (retires.max, retires.core_timeout, retires.unbounded) sound.max_within_limit;
      capacity_within_limit = rw retires.capacity sound.capacity_within_limit;
      idle_within_threads = omega (arith, retires.idle, retires.threads, sound.idle_within_threads);
      threads_within_max = omega (arith, retires.threads, retires.max, sound.threads_within_max);
      queue_within_limit = rw (retires.unbounded, retires.capacity, retires.queue)
          (still_within pool.unbounded pool.capacity pool.idle after.idle (length pool.queue) (length pool.queue) sound.queue_within_limit (omega arith) (λ bounded none each. retires.not_handed bounded none));
    }

pub sound_kept : IsInvariant IsSound
sound_kept = record { by_offer = sound_by_offer; by_take = sound_by_take; by_finish = sound_by_finish; by_retire = sound_by_retire }

-- core threads are enough, and one thread is if core threads may time out
least-le_core : (pool : PoolView) → 1 ≤ pool.core → least_threads pool ≤ pool.core
least-le_core pool some = at_most pool.core_timeout
  where
    at_most : (timeout : Bool) → cond timeout 1 pool.core ≤ pool.core
    at_most true = some
    at_most false = omega arith

one_is_enough : (pool : PoolView) → pool.core_timeout ≡ true → least_threads pool ≡ 1
one_is_enough pool timeout = ap (λ (b : Bool). cond b 1 pool.core) timeout

-- enough threads are left if the pool did not need the one that ended
spare_ended : (pool : PoolView) → HasSpareThread pool → 1 ≤ pool.core → 1 ≤ length pool.queue → least_threads pool ≤ pool.threads - 1
spare_ended pool (inl above) core some = omega (arith, least-le_core pool core)
spare_ended pool (inr (timeout, inl another)) core some = omega (arith, one_is_enough pool timeout)
spare_ended pool (inr (timeout, inr none)) core some = absurd (omega arith)

threads_by_offer : (pool : PoolView) (job : ℕ) → QueuesHaveThreads pool → QueuesHaveThreads (offered pool job)
threads_by_offer pool job have = grind (arith, common_steps)

threads_by_take : (pool after : PoolView) (job : ℕ) → taken pool ≡ Some (job, after) → QueuesHaveThreads pool → QueuesHaveThreads after
threads_by_take pool after job e have core some =
    let takes = taken_takes pool after job e in
    let long : length pool.queue ≡ suc (length after.queue) = ap length takes.queue in
    let enough = have (omega (arith, takes.core)) (omega arith) in
    rw (takes.core_timeout, takes.core, takes.threads) enough

threads_by_retire : (pool after : PoolView) → retired pool ≡ Some after → QueuesHaveThreads pool → QueuesHaveThreads after
threads_by_retire pool after e have core some =
    let retires = retired_retires pool after e in
    let queued : 1 ≤ length pool.queue = rw (← retires.queue) some in
    rw (retires.core_timeout, retires.core, retires.threads) (spare_ended pool retires.spare (omega (arith, retires.core)) queued)

pub queues_have_threads_kept : IsInvariant QueuesHaveThreads
queues_have_threads_kept = record { by_offer = threads_by_offer; by_take = threads_by_take; by_finish = λ pool busy have. have; by_retire = threads_by_retire }

load_by_offer : (pool : PoolView) (job : ℕ) → load (offered pool job) ≤ load pool + 1
load_by_offer pool job = grind (arith, common_steps)

load_by_refusal : (pool : PoolView) → answer pool ≡ Refused → pool.capacity + pool.max ≤ load pool
load_by_refusal pool e =
    let full = refused_when_full pool e in
    omega (arith, full.1, full.2)

load_by_take : (pool after : PoolView) (job : ℕ) → taken pool ≡ Some (job, after) → load after < load pool
load_by_take pool after job e =
    let takes = taken_takes pool after job e in
    let long : length pool.queue ≡ suc (length after.queue) = ap length takes.queue in
    omega (arith, takes.threads)

-- a pool has a thread if it has a spare one and, in case its core threads may time out, an idle one
some_thread : (pool : PoolView) (idle : ℕ) → HasSpareThread pool → pool.idle ≡ suc idle → (pool.core_timeout ≡ true → pool.idle ≤ pool.threads) → 1 ≤ pool.threads
some_thread pool idle (inl above) is_idle within = omega arith
some_thread pool idle (inr timeout) is_idle within = omega (arith, within timeout.0)

load_by_retire : (pool after : PoolView) → retired pool ≡ Some after → (pool.core_timeout ≡ true → pool.idle ≤ pool.threads) → load after < load pool
load_by_retire pool after e within =
    let retires = retired_retires pool after e in
    let same : length after.queue ≡ length pool.queue = ap length retires.queue in
    omega (arith, retires.threads, some_thread pool after.idle retires.spare retires.idle within)

pub load_is_offered : LoadIsOffered
load_is_offered = record { at_start = λ pool. omega arith; by_offer = load_by_offer; by_refusal = load_by_refusal; by_take = load_by_take; by_finish = λ pool. refl; by_retire = load_by_retire }
