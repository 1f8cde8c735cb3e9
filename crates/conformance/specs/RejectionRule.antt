-- The rejections that a plan allows, and the other refusals, in a recording.
use Rattle.std.specs.Prelude.{ℕ, ◌+◌, ◌==◌, ◌&&◌, ◌||◌, not, Bool, true, false, if◌then◌else◌, List, length, count_by, is_some, Option, Some, None}
use Rattle.std.specs.List.{list_any, filter_map, slice_get}
use Rattle.std.specs.Option.{option_and_then}
use Rattle.std.specs.Str.{bytes_eq}
use Rattle.job_bodies.specs.declared.action.Action.{Action}
use Rattle.job_bodies.specs.declared.action.Action.TheVariants.{Get}
use Rattle.job_bodies.specs.Plan as plans
use Rattle.job_bodies.specs.Plan.{Plan, pool_at, class_at, submitted_class}
use Rattle.recordings.specs.declared.recording_line.RecordedActor.{RecordedActor}
use Rattle.recordings.specs.declared.recording_line.RecordedActor.TheVariants.{Job, Round}
use Rattle.recordings.specs.declared.pool_sizes.HandlerKind.{HandlerKind}
use Rattle.recordings.specs.declared.pool_sizes.HandlerKind.TheVariants as handler
use Rattle.recordings.specs.RecordingLine.{RecordedLine, Pool, Submits, Refused, Got, TimedOut, Interrupted, Cancels, InvokesAny, ShutDown}
use Rattle.recordings.specs.Before.{has_started}
use Rattle.recordings.specs.LineSteps.{with_lines_before}
use Rattle.recordings.specs.declared.invalidation.Invalidation.{Invalidation}
use Rattle.recordings.specs.declared.invalidation.InvalidatingEvent.TheVariants as event
use Rattle.conformance.specs.PoolDeviations.{pool_named}
use Rattle.conformance.specs.declared.rejection_rule.RejectionRule.{RejectionRule}
use Rattle.conformance.specs.declared.rejection_rule.RejectionRule.TheVariants as rule

-- ---- the plan
-- The pool of the class that the body submits at index `submit`.
abbrev pub pool_of_submit : Plan → List Action → ℕ → ℕ
pool_of_submit plan body submit = (class_at plan (submitted_class body submit)).pool

-- The action of this body is a get of a job of the pool.
abbrev pub is_get_from : Plan → ℕ → List Action → Action → Bool
is_get_from plan pool body (Get submit) = pool_of_submit plan body submit == pool
is_get_from plan pool body action = false

abbrev pub has_get_from : Plan → ℕ → List Action → Bool
has_get_from plan pool body = list_any (is_get_from plan pool body) body

-- Some body of the plan gets a job of the pool.
unfoldable pub is_got : Plan → ℕ → Bool
is_got plan pool = list_any (λ (class : plans.Class). has_get_from plan pool class.body) plan.classes || list_any (λ (client : plans.Client). has_get_from plan pool client.body) plan.clients

-- Some pool of the plan may reject jobs.
unfoldable pub has_rejecting_pool : Plan → Bool
has_rejecting_pool plan = list_any (λ (pool : plans.Pool). pool.may_reject) plan.pools

-- ---- the handler of a pool
-- The handler throws an exception.
abbrev pub is_abort : HandlerKind → Bool
is_abort handler.Abort = true
is_abort handler.CallerRuns = false
is_abort handler.Discard = false
is_abort handler.DiscardOldest = false
is_abort handler.Other = false

abbrev pub is_caller_runs : HandlerKind → Bool
is_caller_runs handler.Abort = false
is_caller_runs handler.CallerRuns = true
is_caller_runs handler.Discard = false
is_caller_runs handler.DiscardOldest = false
is_caller_runs handler.Other = false

-- The handler drops the new job without an exception. A handler that drops the oldest job of the queue instead accepts the
-- new job.
abbrev pub is_discard : HandlerKind → Bool
is_discard handler.Abort = false
is_discard handler.CallerRuns = false
is_discard handler.Discard = true
is_discard handler.DiscardOldest = false
is_discard handler.Other = false

-- The line is a `pool` line of the pool, and its handler is not of this kind.
abbrev pub has_other_handler : (HandlerKind → Bool) → List ℕ → RecordedLine → Bool
has_other_handler is_kind name (Pool one sizes) = bytes_eq one name && not (is_kind sizes.handler)
has_other_handler is_kind name line = false

-- The handler is of this kind in each `pool` line of the pool. A line reports a change of the handler only after the change.
-- So if the handler changed, the handler at a refusal is uncertain.
unfoldable pub has_handler : List RecordedLine → (HandlerKind → Bool) → List ℕ → Bool
has_handler lines is_kind name = not (list_any (has_other_handler is_kind name) lines)

-- ---- a shutdown
-- The line shuts this pool down.
abbrev pub shuts : List ℕ → RecordedLine → Bool
shuts name (ShutDown pool) = bytes_eq pool name
shuts name line = false

unfoldable pub is_shut : List RecordedLine → List ℕ → Bool
is_shut lines name = list_any (shuts name) lines

-- ---- the refused job
-- The number of the job, or `None` if the actor is a round.
abbrev pub job_of_actor : RecordedActor → Option ℕ
job_of_actor (Job job) = Some job
job_of_actor (Round round) = None

-- The job that acts in this line: it submits, gets or cancels a job, or calls `invokeAny`.
abbrev pub acting_job : RecordedLine → Option ℕ
acting_job (Submits actor job class pool) = job_of_actor actor
acting_job (Refused actor job) = job_of_actor actor
acting_job (Got actor job) = job_of_actor actor
acting_job (TimedOut actor job) = job_of_actor actor
acting_job (Interrupted actor job) = job_of_actor actor
acting_job (Cancels actor job) = job_of_actor actor
acting_job (InvokesAny actor pool) = job_of_actor actor
acting_job line = None

abbrev pub is_job : ℕ → Option ℕ → Bool
is_job job None = false
is_job job (Some one) = one == job

-- The job acts in this line: it submits, gets or cancels a job, or calls `invokeAny`.
abbrev pub acts : ℕ → RecordedLine → Bool
acts job line = is_job job (acting_job line)

unfoldable pub has_acted : List RecordedLine → ℕ → Bool
has_acted lines job = list_any (acts job) lines

-- The pool that the line names, if it submits the job.
abbrev pub pool_by : ℕ → RecordedLine → Option (List ℕ)
pool_by job (Submits actor one class pool) = if one == job then Some pool else None
pool_by job line = None

-- The pool that the first `submit` line of the job names.
unfoldable pub submit_pool : List RecordedLine → ℕ → Option (List ℕ)
submit_pool lines job = slice_get (filter_map (pool_by job) lines) 0

-- ---- the rule for a pool
-- The rule for a pool, by four facts. `aborts` and `caller_runs` say whether the handler is `abort` or `caller_runs`.
-- `closes` says whether the pool is shut down. `drops` says whether the handler is `discard` and no body gets a job of the
-- pool.
abbrev pub rule_by : Bool → Bool → Bool → Bool → RejectionRule
rule_by aborts caller_runs closes drops = if aborts then rule.Always else (if caller_runs then rule.IfCallerRuns closes else (if drops then rule.Always else rule.Never))

-- The rule for a pool that may reject jobs. Each refusal is allowed if the handler is `abort`, or if the handler is `discard`
-- and no body of the plan gets a job of the pool. If the handler is `caller_runs`, whether a refusal is allowed depends on
-- the job. With any other handler, no refusal is allowed.
unfoldable pub rule_for : Plan → List RecordedLine → ℕ → RejectionRule
rule_for plan lines pool =
    let name = (pool_at plan pool).name in
    rule_by (has_handler lines is_abort name) (has_handler lines is_caller_runs name) (is_shut lines name) (has_handler lines is_discard name && not (is_got plan pool))

-- The pool may reject jobs and can be full: its queue is bounded.
abbrev pub can_reject : plans.Pool → Bool
can_reject pool = pool.may_reject && not pool.unbounded

-- The rule for a pool of the plan. No refusal is allowed if the pool must not reject jobs or has an unbounded queue.
abbrev pub rule_of : Plan → List RecordedLine → ℕ → RejectionRule
rule_of plan lines pool = if can_reject (pool_at plan pool) then rule_for plan lines pool else rule.Never

-- The rule allows the rejection of a job. With `caller_runs`, the job must submit, get and cancel no job and must not call
-- `invokeAny`. If the recording has a `shutdown` of the pool, the handler may have dropped the job. Then the job must also
-- have a `start` line, and no `shutdown` of the pool may precede the refusal.
abbrev pub is_allowed_by : RejectionRule → Bool → Bool → Bool → Bool
is_allowed_by rule.Never acted started closed = false
is_allowed_by rule.Always acted started closed = true
is_allowed_by (rule.IfCallerRuns closes) acted started closed = not acted && (not closes || (started && not closed))

abbrev pub is_allowed_at : Plan → List RecordedLine → List RecordedLine → ℕ → RejectionRule → ℕ → Bool
is_allowed_at plan lines before job by pool = is_allowed_by by (has_acted lines job) (has_started lines job) (is_shut before (pool_at plan pool).name)

-- ---- a line
-- The pool of the plan that the first `submit` line of the job names.
abbrev pub pool_of_job : Plan → List RecordedLine → ℕ → Option ℕ
pool_of_job plan lines job = option_and_then (pool_named plan) (submit_pool lines job)

-- The pool, if its rule allows the rejection of the job, and `None` otherwise. `before` has the lines before the rejection.
abbrev pub pool_if_allowed : Plan → List RecordedLine → List RecordedLine → ℕ → Option ℕ → Option ℕ
pool_if_allowed plan lines before job None = None
pool_if_allowed plan lines before job (Some pool) = if is_allowed_at plan lines before job (rule_of plan lines pool) pool then Some pool else None

-- The pool of the plan that rejected the job, if the plan allows this rejection. `before` has the lines before the rejection.
abbrev pub rejecting_pool : Plan → List RecordedLine → List RecordedLine → ℕ → Option ℕ
rejecting_pool plan lines before job = pool_if_allowed plan lines before job (pool_of_job plan lines job)

-- The pool of the plan that rejected a job in this line, if the plan allows this rejection. `before` has the lines before the
-- line.
abbrev pub pool_of_rejection : Plan → List RecordedLine → List RecordedLine → RecordedLine → Option ℕ
pool_of_rejection plan lines before (Refused actor job) = rejecting_pool plan lines before job
pool_of_rejection plan lines before line = None

-- The pool of a refused job, or `None` if the plan allows the refusal as a rejection.
abbrev pub unless_rejected : Option ℕ → Option ℕ → Option ℕ
unless_rejected (Some rejecting) pool = None
unless_rejected None pool = pool

-- The pool of the plan that refused a job in this line, if the plan does not allow the refusal. `before` has the lines before
-- the line.
abbrev pub pool_of_refusal : Plan → List RecordedLine → List RecordedLine → RecordedLine → Option ℕ
pool_of_refusal plan lines before (Refused actor job) = unless_rejected (rejecting_pool plan lines before job) (pool_of_job plan lines job)
pool_of_refusal plan lines before line = None

-- The line is a `refused` line that the plan allows, so it invalidates nothing. `before` has the lines before the line.
abbrev pub is_allowed_rejection : Plan → List RecordedLine → List RecordedLine → RecordedLine → Bool
is_allowed_rejection plan lines before line = is_some (pool_of_rejection plan lines before line)

-- ---- all lines
-- The pool of each allowed rejection in `read`, in the order of the lines. `read` has the first lines of the recording.
unfoldable pub pools_in : Plan → List RecordedLine → List RecordedLine → List ℕ
pools_in plan lines read = filter_map (λ (before, line). pool_of_rejection plan lines before line) (with_lines_before read)

-- The pool of each refusal in `read` that the plan does not allow, in the order of the lines. `read` has the first lines of
-- the recording.
unfoldable pub refusing_pools_in : Plan → List RecordedLine → List RecordedLine → List ℕ
refusing_pools_in plan lines read = filter_map (λ (before, line). pool_of_refusal plan lines before line) (with_lines_before read)

abbrev pub refusal_unless : Bool → Invalidation → Option Invalidation
refusal_unless allowed refusal = if allowed then None else Some refusal

-- The refusal in this line, if the plan does not allow it.
abbrev pub refusal_by : Plan → List RecordedLine → List RecordedLine → RecordedLine → Option Invalidation
refusal_by plan lines before (Refused actor job) = refusal_unless (is_some (rejecting_pool plan lines before job)) (record { line = length before + 1; event = event.Refused actor job })
refusal_by plan lines before line = None

-- The refusals in `read` that the plan does not allow. `read` has the first lines of the recording.
unfoldable pub refusals_in : Plan → List RecordedLine → List RecordedLine → List Invalidation
refusals_in plan lines read = filter_map (λ (before, line). refusal_by plan lines before line) (with_lines_before read)

-- The first refusal of the recording that the plan does not allow.
abbrev pub first_refusal : Plan → List RecordedLine → Option Invalidation
first_refusal plan lines = slice_get (refusals_in plan lines lines) 0

-- ---- the number of rejections of each pool
-- The number of allowed rejections by the pool in a recording.
abbrev pub rejections_of : Plan → List RecordedLine → ℕ → ℕ
rejections_of plan lines pool = count_by (λ one. one == pool) (pools_in plan lines lines)
