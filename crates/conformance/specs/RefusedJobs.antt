-- The facts about the refused jobs of a recording, as a function of the lines read.
use Rattle.std.specs.Prelude.{◌≡◌, ℕ, ◌==◌, Bool, true, if◌then◌else◌, List, Option, Some, None}
use Rattle.std.specs.Option.{option_map}
use Rattle.support.specs.Numbered.{value_at}
use Rattle.job_bodies.specs.Plan.{Plan}
use Rattle.recordings.specs.Before.{has_started}
use Rattle.recordings.specs.RecordingLine.{RecordedLine, Submits}
use Rattle.conformance.specs.declared.refused_jobs.RefusedJobs.{RefusedJobs}
use Rattle.conformance.specs.JobSet.{has_job}
use Rattle.conformance.specs.PoolDeviations.{pool_named}
use Rattle.conformance.specs.RejectionRule.{has_acted, submit_pool}

-- For each of its jobs, the state has three facts: the pool in the first `submit` line of the job, whether the job has acted,
-- and whether it has started.
pub record AreFactsOf (plan : Plan) (lines : List RecordedLine) (jobs : RefusedJobs) : Type 0 where
  pub pools : (job : ℕ) → has_job jobs.refused job ≡ true → value_at jobs.pools job ≡ option_map (pool_named plan) (submit_pool lines job)
  pub acted : (job : ℕ) → has_job jobs.refused job ≡ true → has_job jobs.acted job ≡ has_acted lines job
  pub started : (job : ℕ) → has_job jobs.refused job ≡ true → has_job jobs.started job ≡ has_started lines job

-- ---- one line
-- The first option, or the second one if the first is `None`.
abbrev pub or_else : {X : Type 0} → Option X → Option X → Option X
or_else None next = next
or_else (Some x) next = Some x

abbrev pub planned_if : Bool → Option ℕ → Option (Option ℕ)
planned_if is_submit pool = if is_submit then Some pool else None

-- The pool that the line names, if the line submits the job. The inner option is `None` if the plan has no such pool.
abbrev pub planned_by : Plan → ℕ → RecordedLine → Option (Option ℕ)
planned_by plan job (Submits actor one class pool) = planned_if (one == job) (pool_named plan pool)
planned_by plan job line = None
