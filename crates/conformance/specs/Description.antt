-- The first deviating step of an actor.
use Rattle.std.specs.Prelude.{◌≡◌, ℕ, zero, suc, Bool, not, if◌then◌else◌, List, slice_get, string_bytes, option_map, Option, Some, None, [], ◌∷◌, flat_map}
use Rattle.std.specs.List.{list_any, enumerate_from}
use Rattle.std.specs.Option.{option_and_then}
use Rattle.std.specs.declared.alloc.Global.{Global}
use Rattle.std.specs.declared.string.String.{String}
use Rattle.recordings.specs.RecordingLine.{RecordedLine}
use Rattle.recordings.specs.declared.recording_line.RecordedActor.TheVariants.{Job}
use Rattle.recordings.specs.declared.recording_line.RecordedActor.{RecordedActor}
use Rattle.recordings.specs.declared.step.RecordedStep.{RecordedStep}
use Rattle.recordings.specs.declared.step.RecordedStep.TheVariants as recorded
use Rattle.recordings.specs.ActorPath.{gets as is_get_of}
use Rattle.job_bodies.specs.Plan.{Plan}
use Rattle.conformance.specs.Verdicts.{is_planned_class}
use Rattle.conformance.specs.declared.actor_label.ActorLabel.{ActorLabel}
use Rattle.conformance.specs.declared.classified_actor.ClassifiedActor.{ClassifiedActor}
use Rattle.conformance.specs.declared.describe_mismatch.JobStep.{JobStep}
use Rattle.conformance.specs.declared.describe_mismatch.JobStep.TheVariants as step
use Rattle.conformance.specs.declared.explained_prefix.ExplainedPrefix.{ExplainedPrefix}
use Rattle.conformance.specs.declared.open_excess.OpenExcess.{OpenExcess}
use Rattle.conformance.specs.declared.mismatch.NamedStep.{NamedStep}
use Rattle.conformance.specs.declared.mismatch.NamedStep.TheVariants as named
use Rattle.conformance.specs.declared.mismatch.PathMismatch.{PathMismatch}
use Rattle.conformance.specs.declared.mismatch.DeviatingStep.{DeviatingStep}
use Rattle.conformance.specs.declared.mismatch.DeviatingStep.TheVariants as mismatch
use Rattle.conformance.specs.declared.line_query.LineQuery.{LineQuery}
use Rattle.conformance.specs.declared.line_query.LineQuery.TheVariants as line_query
use Rattle.conformance.specs.LineQuery.{IsFirstLine, IsLabelOf}
use Rattle.conformance.specs.FailedGets.{failed_gets}

-- ---- one step of a path
-- The get of the job that the step submits, or `None` if the step is a get.
abbrev pub got_by : RecordedStep → Option JobStep
got_by (recorded.Submits job) = Some (step.Gets job)
got_by (recorded.Gets place) = None

-- The get of the job that the path submits at index `submit`.
abbrev pub got_at : List RecordedStep → ℕ → Option JobStep
got_at path submit = option_and_then got_by (slice_get path submit)

abbrev pub job_step_of : List RecordedStep → RecordedStep → Option JobStep
job_step_of path (recorded.Submits job) = Some (step.Submits job)
job_step_of path (recorded.Gets submit) = got_at path submit

-- The step at an index, or `None` past the end.
abbrev pub step_at : List RecordedStep → ℕ → Option JobStep
step_at path place = option_and_then (job_step_of path) (slice_get path place)

-- The condition for the line of the step. If there is no step, it is the condition for the line that ends the actor.
abbrev pub line_query_of : RecordedActor → Option JobStep → LineQuery
line_query_of actor None = line_query.Last actor
line_query_of actor (Some (step.Submits job)) = line_query.Submit job
line_query_of actor (Some (step.Gets job)) = line_query.Got actor job

-- The step before an index, or `None` at the start.
abbrev pub step_before : List RecordedStep → ℕ → Option JobStep
step_before path zero = None
step_before path (suc place) = step_at path place

-- ---- open jobs
-- The job that this step submits, if the path does not get it. Otherwise the list is empty. `place` is the index of the step.
abbrev pub open_job_at : List RecordedStep → ℕ × RecordedStep → List ℕ
open_job_at path (place, recorded.Submits job) = if list_any (is_get_of place) path then [] else job ∷ []
open_job_at path (place, recorded.Gets submit) = []

-- The jobs that no step of the path gets, in the order of their submits.
abbrev pub open_jobs : List RecordedStep → List ℕ
open_jobs path = flat_map (open_job_at path) (enumerate_from 0 path)

abbrev pub first_open : List RecordedStep → Option ℕ
first_open path = slice_get (open_jobs path) 0

abbrev pub submitted_by : RecordedStep → Option ℕ
submitted_by (recorded.Submits job) = Some job
submitted_by (recorded.Gets place) = None

-- The job of the submit at an index, or `None` if there is no submit.
abbrev pub submitted_job : List RecordedStep → ℕ → Option ℕ
submitted_job path submit = option_and_then submitted_by (slice_get path submit)

-- The job that the actor should have got before its end. If an index is given, it is the job that the path submits at this
-- index. Otherwise it is the first open job.
abbrev pub missing_job : List RecordedStep → Option ℕ → Option ℕ
missing_job path None = first_open path
missing_job path (Some submit) = submitted_job path submit

-- ---- what is reported
-- The named step is the given step, with the class in the `submit` line of its job.
pub data IsNamedStep (lines : List RecordedLine) : JobStep → NamedStep → Type 0 where
  submitted : (job : ℕ) (class : String Global) (pool : List ℕ) → IsLabelOf lines (Job job) (string_bytes class) pool → IsNamedStep lines (step.Submits job) (named.Submits class)
  got : (job : ℕ) (class : String Global) (pool : List ℕ) → IsLabelOf lines (Job job) (string_bytes class) pool → IsNamedStep lines (step.Gets job) (named.Gets class)

pub data IsNamed (lines : List RecordedLine) : Option JobStep → Option NamedStep → Type 0 where
  nothing : IsNamed lines None None
  something : (did : JobStep) (name : NamedStep) → IsNamedStep lines did name → IsNamed lines (Some did) (Some name)

-- `label` has the class and the pool in the `submit` line of the job.
abbrev pub IsLabelOfJob : List RecordedLine → ℕ → ActorLabel → Type 0
IsLabelOfJob lines job label = IsLabelOf lines (Job job) (string_bytes label.name) (string_bytes label.pool)

-- The deviation for a submit of a job whose own path may match a class. `excess` has the open jobs that block the submit, or
-- is `None` if the body has no such submit left.
abbrev pub submit_of_body : ActorLabel → Option OpenExcess → DeviatingStep
submit_of_body label None = mismatch.Submits label
submit_of_body label (Some excess) = mismatch.SubmitsWhileOpen label excess

-- The deviation for a submit. If the job's own path matches no class, the deviation says this, and whether the plan has a
-- class of the job's label. Otherwise it is that of `submit_of_body`.
abbrev pub deviating_submit : Bool → Bool → ℕ → ActorLabel → Option OpenExcess → DeviatingStep
deviating_submit is_classless is_planned job label excess =
    if not is_classless then submit_of_body label excess
    else (if is_planned then mismatch.SubmitsMismatched job label else mismatch.SubmitsUnplanned job label)

-- The deviation for an actor that ended too early. If the actor should have got a job, the deviation has this job, its label,
-- and how often a get of the job by the actor timed out or was interrupted.
pub data IsDeviatingEnd (lines : List RecordedLine) (actor : RecordedActor) : Option ℕ → DeviatingStep → Type 0 where
  closed : IsDeviatingEnd lines actor None mismatch.Ends
  while_open : (job : ℕ) (label : ActorLabel) → IsLabelOfJob lines job label → IsDeviatingEnd lines actor (Some job) (mismatch.EndsOpen job label (failed_gets lines actor job))

-- The first step that no body explains: a submit or a get. If there is no such step, it is the actor's end, with the job that
-- the actor should have got, if there is one.
pub data IsDeviatingStep (plan : Plan) (lines : List RecordedLine) (is_classless : ℕ → Bool) (actor : RecordedActor) (path : List RecordedStep) (explained : ExplainedPrefix) : Option JobStep → DeviatingStep → Type 0 where
  ends : (found : DeviatingStep) → IsDeviatingEnd lines actor (missing_job path explained.missing) found → IsDeviatingStep plan lines is_classless actor path explained None found
  submits : (job : ℕ) (label : ActorLabel) → IsLabelOfJob lines job label
      → IsDeviatingStep plan lines is_classless actor path explained (Some (step.Submits job)) (deviating_submit (is_classless job) (is_planned_class plan (string_bytes label.name) (string_bytes label.pool)) job label explained.excess)
  gets : (job : ℕ) (label : ActorLabel) → IsLabelOfJob lines job label → IsDeviatingStep plan lines is_classless actor path explained (Some (step.Gets job)) (mismatch.Gets label)

abbrev pub number_seen : Option (ℕ × RecordedLine) → Option ℕ
number_seen found = option_map (λ (number, line). number) found

-- `found` describes the path mismatch of an actor: its label, the first step that no body explains, and the step before it.
-- `number` is the number of the line of the first step that no body explains.
pub record IsDescriptionOf (plan : Plan) (lines : List RecordedLine) (is_classless : ℕ → Bool) (reported : ClassifiedActor) (number : Option ℕ) (found : PathMismatch) : Type 0 where
  pub actor_is : found.actor ≡ reported.actor
  pub label_is : string_bytes found.label.name ≡ string_bytes reported.label
  pub pool_is : string_bytes found.label.pool ≡ string_bytes reported.pool
  pub line : Option (ℕ × RecordedLine)
  pub first : IsFirstLine lines (line_query_of reported.actor (step_at reported.path.items reported.family.explained.length)) line
  pub number_is : number ≡ number_seen line
  pub did : IsDeviatingStep plan lines is_classless reported.actor reported.path.items reported.family.explained (step_at reported.path.items reported.family.explained.length) found.step
  pub after : IsNamed lines (step_before reported.path.items reported.family.explained.length) found.after
