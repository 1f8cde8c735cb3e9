-- The actions of an actor, from the lines of the recording.
use Rattle.std.specs.Prelude.{ℕ, ◌==◌, ◌&&◌, not, Bool, false, if◌then◌else◌, List, [], ◌∷◌, map, Option, Some, None}
use Rattle.std.specs.List.{list_any, filter_map}
use Rattle.recordings.specs.declared.recording_line.RecordedActor.{RecordedActor}
use Rattle.recordings.specs.RecordingLine.{RecordedLine, Submits, Got}
use Rattle.recordings.specs.LineParts.{is_same_actor, submits_job, refuses_job}

-- ---- the lines of a job
abbrev pub submits_by : RecordedActor → ℕ → RecordedLine → Bool
submits_by actor job (Submits submitter one class pool) = is_same_actor submitter actor && (one == job)
submits_by actor job line = false

abbrev pub gets_by : RecordedActor → ℕ → RecordedLine → Bool
gets_by actor job (Got getter one) = is_same_actor getter actor && (one == job)
gets_by actor job line = false

unfoldable pub is_submitted : List RecordedLine → ℕ → Bool
is_submitted lines job = list_any (submits_job job) lines

-- some line says that the job was refused, whichever actor submitted it
unfoldable pub is_refused : List RecordedLine → ℕ → Bool
is_refused lines job = list_any (refuses_job job) lines

unfoldable pub has_submitted : List RecordedLine → RecordedActor → ℕ → Bool
has_submitted lines actor job = list_any (submits_by actor job) lines

unfoldable pub has_got : List RecordedLine → RecordedActor → ℕ → Bool
has_got lines actor job = list_any (gets_by actor job) lines

-- ---- the actions of an actor, with the numbers of jobs
pub data JobStep : Type 0 where
  SubmitOf : ℕ → JobStep
  GetOf : ℕ → JobStep

abbrev pub job_of_step : JobStep → ℕ
job_of_step (SubmitOf job) = job
job_of_step (GetOf job) = job

abbrev pub is_submit_of : ℕ → JobStep → Bool
is_submit_of job (SubmitOf one) = one == job
is_submit_of job (GetOf one) = false

abbrev pub is_get_of : ℕ → JobStep → Bool
is_get_of job (GetOf one) = one == job
is_get_of job (SubmitOf one) = false

-- The action of the actor that the line reports, if any. It is a submit if the line is a submit by the actor. It is a get if
-- the line is the actor's first get of a job that the actor submitted before.
abbrev pub step_by_line : RecordedActor → List RecordedLine → RecordedLine → Option JobStep
step_by_line actor before (Submits submitter job class pool) = if is_same_actor submitter actor then Some (SubmitOf job) else None
step_by_line actor before (Got getter job) = if is_same_actor getter actor && has_submitted before actor job && not (has_got before actor job) then Some (GetOf job) else None
step_by_line actor before line = None

-- each line together with the lines before it
abbrev pub with_lines_before : List RecordedLine → List (List RecordedLine × RecordedLine)
with_lines_before [] = []
with_lines_before (line ∷ lines) = ([], line) ∷ map (λ (before, one). (line ∷ before, one)) (with_lines_before lines)

unfoldable pub steps_by_lines : List RecordedLine → RecordedActor → List JobStep
steps_by_lines lines actor = filter_map (λ (before, line). step_by_line actor before line) (with_lines_before lines)
