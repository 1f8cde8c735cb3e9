-- The refusals of a recording, as a function of the lines read.
use Rattle.std.specs.Prelude.{◌≡◌, ◌==◌, ◌++◌, ℕ, Bool, true, false, if◌then◌else◌, List, count_by, Option, Some, None}
use Rattle.std.specs.List.{slice_get, filter_map, enumerate_from}
use Rattle.std.specs.Option.{option_to_list}
use Rattle.job_bodies.specs.Plan as plans
use Rattle.job_bodies.specs.Plan.{Plan}
use Rattle.recordings.specs.RecordingLine.{RecordedLine}
use Rattle.recordings.specs.declared.recording_line.RecordedActor.{RecordedActor}
use Rattle.recordings.specs.declared.invalidation.Invalidation.{Invalidation}
use Rattle.recordings.specs.declared.invalidation.InvalidatingEvent.TheVariants as event
use Rattle.conformance.specs.declared.rejections.PoolRejections.{PoolRejections}
use Rattle.conformance.specs.declared.rejections.Rejections.{Rejections}
use Rattle.conformance.specs.PoolComparison.{has_name}
use Rattle.conformance.specs.RefusedJobs.{or_else}
use Rattle.conformance.specs.RejectingPools.{only_rejects_by}
use Rattle.conformance.specs.RejectionRule.{is_shut, has_rejecting_pool, unless_rejected, pools_in, refusing_pools_in, refusals_in, first_refusal}

-- The state has the refusals in `read`, the first lines of the recording.
pub record AreRejectionsOfPrefix (plan : Plan) (lines read : List RecordedLine) (rejections : Rejections) : Type 0 where
  pub pools : rejections.pools.items ≡ pools_in plan lines read
  pub refusing : rejections.refusing.items ≡ refusing_pools_in plan lines read
  pub first : rejections.first_refusal ≡ slice_get (refusals_in plan lines read) 0
  pub shut : (pool : List ℕ) → has_name rejections.shut pool ≡ is_shut read pool

-- The state has the refusals of the whole recording.
pub record AreAllRejections (plan : Plan) (lines : List RecordedLine) (rejections : Rejections) : Type 0 where
  pub pools : rejections.pools.items ≡ pools_in plan lines lines
  pub refusing : rejections.refusing.items ≡ refusing_pools_in plan lines lines
  pub first : rejections.first_refusal ≡ first_refusal plan lines

-- The state has the refusals of the recording. It is `None` if no pool of the plan may reject jobs.
abbrev pub AreRejectionsOf : Plan → List RecordedLine → Option Rejections → Type 0
AreRejectionsOf plan lines None = has_rejecting_pool plan ≡ false
AreRejectionsOf plan lines (Some rejections) = (has_rejecting_pool plan ≡ true) × AreAllRejections plan lines rejections

-- ---- one refusal
-- The list of pools after a refusal: `pool` is appended, if there is one.
abbrev pub pools_after : Option ℕ → List ℕ → List ℕ
pools_after pool pools = pools ++ option_to_list pool

abbrev pub refusal_after : Option ℕ → Invalidation → Option Invalidation → Option Invalidation
refusal_after None refusal first = or_else first (Some refusal)
refusal_after (Some pool) refusal first = first

pub record NotesRefusal (pool of_job : Option ℕ) (number : ℕ) (actor : RecordedActor) (job : ℕ) (old new : Rejections) : Type 0 where
  pub pools : new.pools.items ≡ pools_after pool old.pools.items
  pub refusing : new.refusing.items ≡ pools_after (unless_rejected pool of_job) old.refusing.items
  pub first : new.first_refusal ≡ refusal_after pool (record { line = number; event = event.Refused actor job }) old.first_refusal
  pub shut : new.shut ≡ old.shut

-- ---- the pools that only reject jobs
-- The pool refused at least one job, and the plan allows all refusals by the pool.
abbrev pub only_rejected_by : Rejections → ℕ → Bool
only_rejected_by rejections = only_rejects_by rejections.pools.items rejections.refusing.items

-- ---- the number of rejections of each pool
-- The number of rejections by the pool, or `None` if the pool must not reject jobs. `pools` has the pool of each rejection.
abbrev pub count_if : List ℕ → ℕ × plans.Pool → Option PoolRejections
count_if pools (number, pool) = if pool.may_reject then Some (record { pool = number; count = count_by (λ one. one == number) pools }) else None

-- The number of rejections by each pool that may reject jobs, in the order of the plan. `pools` has the pool of each
-- rejection.
abbrev pub counts_by : Plan → List ℕ → List PoolRejections
counts_by plan pools = filter_map (count_if pools) (enumerate_from 0 plan.pools)

-- The number of allowed rejections in a recording by each pool that may reject jobs, in the order of the plan.
abbrev pub rejections_of : Plan → List RecordedLine → List PoolRejections
rejections_of plan lines = counts_by plan (pools_in plan lines lines)
