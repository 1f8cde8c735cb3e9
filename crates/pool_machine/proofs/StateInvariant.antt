-- The invariant of reachable states.
use Rattle.std.proofs.Common.{◌≡◌, ◌≢◌, ℕ, ◌+◌, ◌<◌, ◌≤◌, List, length, get_or, Some, All}
use Rattle.std.specs.List.{slice_get, count_by}
use Rattle.support.specs.Places.{places_where, last_of}
use Rattle.job_bodies.specs.declared.action.Action.{Action}
use Rattle.job_bodies.specs.declared.action.Action.TheVariants as action
use Rattle.job_bodies.specs.Plan.{Plan, Pool, pool_at, submitted_class}
use Rattle.pool_machine.specs.PoolState.{room_limit}
use Rattle.pool_machine.specs.declared.parent.Parent.{Parent}
use Rattle.pool_machine.specs.State.{Stage, State, CreatedJob, PoolPart, no_job, job_at, pool_part, is_made_by, is_busy_in, is_queued_in}
use Rattle.pool_machine.specs.Step.{point}
use Rattle.pool_machine.specs.Laws.{HasGreaterNumber}

-- actor a has a latest job that it created at position t; the job has class k, is not claimed, and has a greater number than a if a is a
-- job
pub record HasChild (jobs : List CreatedJob) (a : Parent) (t k : ℕ) : Type 0 where
  pub number : ℕ
  pub is_child : last_of (places_where (is_made_by a t) jobs) ≡ Some number
  pub of_class : (get_or jobs number no_job).class ≡ k
  pub unclaimed : (get_or jobs number no_job).stage ≢ Stage.Claimed
  pub later : HasGreaterNumber a number

-- the invariant of an actor at position i: for each later get of a submit before i, the job for which that get waits exists
pub record ActorInvariant (jobs : List CreatedJob) (a : Parent) (body : List Action) (i : ℕ) : Type 0 where
  pub inside : i ≤ length body
  pub ready : (g t : ℕ) → i ≤ g → t < i → slice_get body g ≡ Some (action.Get t) → HasChild jobs a t (submitted_class body t)

-- the invariant of a pool, given its queue and idle workers, the numbers of the jobs that are queued in it, and the number of jobs that run
-- in it
pub record PoolInvariant (pool : Pool) (part : PoolPart) (places : List ℕ) (busy : ℕ) : Type 0 where
  pub queue : part.queue ≡ places
  pub within_max : part.idle + busy ≤ pool.max
  pub within_queue : length part.queue ≤ room_limit pool.unbounded pool.queue part.idle (length part.queue)

abbrev pub places : Plan → List CreatedJob → ℕ → List ℕ
places plan jobs p = places_where (is_queued_in plan p) jobs

abbrev pub busy_jobs : Plan → List CreatedJob → ℕ → ℕ
busy_jobs plan jobs p = count_by (is_busy_in plan p) jobs

pub record StateInvariant (plan : Plan) (s : State) : Type 0 where
  pub classes : All (λ job. job.class < length plan.classes) s.jobs
  pub parents : (j : ℕ) → j < length s.jobs → HasGreaterNumber (job_at s j).parent j
  pub as_many : length s.pools ≡ length plan.pools
  pub pools : (p : ℕ) → p < length plan.pools → PoolInvariant (pool_at plan p) (pool_part s p) (places plan s.jobs p) (busy_jobs plan s.jobs p)
  pub actors : (a : Parent) (body : List Action) (i : ℕ) → point plan s a ≡ Some (record { body = body; position = i }) → ActorInvariant s.jobs a body i
