-- The number of jobs that were created for a pool bounds the number of its threads and queued jobs.
use Rattle.std.specs.Prelude.{◌≡◌, ◌≤◌, ◌<◌, ◌+◌, ◌==◌, ℕ, Bool, Some, length, count_by}
use Rattle.job_bodies.specs.Plan.{Plan, pool_at, first_workers}
use Rattle.job_bodies.specs.WellFormed.{IsWellFormed}
use Rattle.pool_machine.specs.declared.event.Event.{Event}
use Rattle.pool_machine.specs.declared.event.Outcome.TheVariants.{Refused}
use Rattle.pool_machine.specs.State.{CreatedJob, State, pool_of, pool_part, threads}
use Rattle.pool_machine.specs.Step.{step}
use Rattle.pool_machine.specs.Reach.{IsReached}
use Rattle.pool_machine.specs.Laws.{HoldsWhereReached}

-- whether the class of the job belongs to pool p; the job may be at any stage
abbrev pub is_of_pool : Plan → ℕ → CreatedJob → Bool
is_of_pool plan p job = pool_of plan job.class == p

-- the number of jobs that were created for pool p
abbrev pub jobs_made : Plan → State → ℕ → ℕ
jobs_made plan s p = count_by (is_of_pool plan p) s.jobs

-- the number of threads and queued jobs of pool p is at most the number of jobs that were created for it, plus its prestarted
-- threads
abbrev pub HasJobs : Plan → State → ℕ → Type 0
HasJobs plan s p = threads plan s p + length (pool_part s p).queue ≤ jobs_made plan s p + first_workers (pool_at plan p)

-- `HasJobs` holds for each pool in every reachable state of a well-formed plan
abbrev pub ThreadsHaveJobs : Type 0
ThreadsHaveJobs = HoldsWhereReached (λ plan s. (p : ℕ) → p < length plan.pools → HasJobs plan s p)

-- Let n be the number of jobs that were created for a pool, plus its prestarted threads. The pool refuses a job only if n is at
-- least its queue capacity plus its maximum.
abbrev pub RefusalsNeedJobs : Type 0
RefusalsNeedJobs = (plan : Plan) (p : ℕ) (s s' : State) (event : Event) → IsWellFormed plan → IsReached plan s → step plan s event ≡ Some (s', Refused p)
    → (pool_at plan p).queue + (pool_at plan p).max ≤ jobs_made plan s p + first_workers (pool_at plan p)
