-- The effect of a thread that starts without a job, because Java looked at a pool: the number of idle workers grows by one.
use Rattle.std.proofs.Common.{◌≡◌, ℕ, ◌+◌, ◌<◌, ◌≤◌, inl, inr, true, List, length, refl, sym, ap, ◌∙◌, arith}
use Rattle.std.proofs.lemmas.Bool.{false≢true, cases_lt}
use Rattle.std.proofs.lemmas.List.{length-set, get_or-set_same, get_or_past}
use Rattle.job_bodies.specs.Plan.{Plan, Pool, no_pool, pool_at, least_threads, first_workers}
use Rattle.pool_machine.proofs.QueueLimits.{still_within}
use Rattle.pool_machine.specs.State.{State, PoolPart, no_pool_part, pool_part, threads}
use Rattle.pool_machine.specs.Laws.{HasThreads}
use Rattle.pool_machine.specs.JobsMade.{jobs_made}
use Rattle.pool_machine.proofs.StateInvariant.{PoolInvariant, StateInvariant, places, busy_jobs}
use Rattle.pool_machine.proofs.PoolInvariants.{HasPoolInvariant, pools_with_part}
use Rattle.pool_machine.proofs.Actors.{point_same}
use Rattle.pool_machine.proofs.Preserves.{idle_elsewhere}
use Rattle.pool_machine.proofs.JobsMade.{HaveJobs}
use Rattle.soundness.proofs.ThreadChanges.{IsLasting}
use Rattle.soundness.proofs.JavaEvents.{with_spare_thread}

-- an index past the last pool has no core threads that may time out
pub timeout_inside : (plan : Plan) (p : ℕ) → (pool_at plan p).core_timeout ≡ true → p < length plan.pools
timeout_inside plan p timeout = elim (cases_lt p (length plan.pools)) [
  | inl inside ↦ inside
  | inr past ↦ absurd (false≢true (sym (ap (λ (pool : Pool). pool.core_timeout) (get_or_past plan.pools p no_pool past)) ∙ timeout))
]

-- a pool that had fewer than its maximum of threads satisfies its invariant with one more idle worker
spare_pool : (pool : Pool) (part : PoolPart) (ns : List ℕ) (busy : ℕ) → PoolInvariant pool part ns busy → part.idle + busy < pool.max → PoolInvariant pool (record { queue = part.queue; idle = part.idle + 1 }) ns busy
spare_pool pool part ns busy kept below = record {
  queue = kept.queue;
  within_max = omega arith;
  within_queue = still_within pool.unbounded pool.queue part.idle (part.idle + 1) (length part.queue) (length part.queue) kept.within_queue (omega arith) (λ bounded none each. omega arith);
}

-- the invariant of reachable states still holds
pub kept_spares : (plan : Plan) (s : State) (p : ℕ) → StateInvariant plan s → threads plan s p < (pool_at plan p).max → StateInvariant plan (with_spare_thread p s)
kept_spares plan s p kept below = record {
  classes = kept.classes;
  parents = kept.parents;
  as_many = length-set s.pools p (record { queue = (pool_part s p).queue; idle = (pool_part s p).idle + 1 }) ∙ kept.as_many;
  pools = pools_with_part plan s p (pool_part s p).queue ((pool_part s p).idle + 1) (HasPoolInvariant plan s.jobs) kept.as_many
      (λ exists. spare_pool (pool_at plan p) (pool_part s p) (places plan s.jobs p) (busy_jobs plan s.jobs p) (kept.pools p exists) below) (λ q inside other. kept.pools q inside);
  actors = λ a body i now. kept.actors a body i (sym (point_same plan s (with_spare_thread p s) a refl refl) ∙ now);
}

-- the bound on threads and queued jobs still holds for pools whose core threads never time out, because the thread started in another pool
pub have_jobs_spares : (plan : Plan) (s : State) (p : ℕ) → StateInvariant plan s → (pool_at plan p).core_timeout ≡ true → HaveJobs plan (IsLasting plan) s → HaveJobs plan (IsLasting plan) (with_spare_thread p s)
have_jobs_spares plan s p kept timeout have =
    pools_with_part plan s p (pool_part s p).queue ((pool_part s p).idle + 1)
    (λ q part. IsLasting plan q → part.idle + busy_jobs plan s.jobs q + length part.queue ≤ jobs_made plan s q + first_workers (pool_at plan q)) kept.as_many
    (λ exists lasting. absurd (false≢true (sym lasting ∙ timeout))) (λ q inside other. have q inside)

-- a pool whose core threads never time out has as many threads as before
pub threads-spare_lasting : (plan : Plan) (s : State) (p q : ℕ) → (pool_at plan p).core_timeout ≡ true → IsLasting plan q → threads plan (with_spare_thread p s) q ≡ threads plan s q
threads-spare_lasting plan s p q timeout lasting =
    ap (λ (idle : ℕ). idle + busy_jobs plan s.jobs q)
    (idle_elsewhere s p (pool_part s p).queue ((pool_part s p).idle + 1) q (λ same. false≢true (sym lasting ∙ ap (λ (r : ℕ). (pool_at plan r).core_timeout) same ∙ timeout)))

-- a pool that had enough threads still has enough
pub threads_spared : (plan : Plan) (s : State) (p q : ℕ) → StateInvariant plan s → q < length plan.pools → HasThreads plan s q → HasThreads plan (with_spare_thread p s) q
threads_spared plan s p q kept =
    pools_with_part plan s p (pool_part s p).queue ((pool_part s p).idle + 1)
    (λ r part. HasThreads plan s r → 1 ≤ length part.queue → least_threads (pool_at plan r) ≤ part.idle + busy_jobs plan s.jobs r) kept.as_many
    (λ exists had some. let enough = had some in omega arith) (λ r inside other had. had) q

-- the pool in which the thread started has at least one thread
pub one_spared : (plan : Plan) (s : State) (p : ℕ) → StateInvariant plan s → p < length plan.pools → 1 ≤ threads plan (with_spare_thread p s) p
one_spared plan s p kept inside =
    let part : PoolPart = record { queue = (pool_part s p).queue; idle = (pool_part s p).idle + 1 } in
    let many = kept.as_many in
    let idle = ap (λ (x : PoolPart). x.idle) (get_or-set_same s.pools p part no_pool_part (omega arith)) in
    omega arith
