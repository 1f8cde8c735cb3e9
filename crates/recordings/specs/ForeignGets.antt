-- Foreign gets: gets of jobs that another actor submitted and has not yet got.
use Rattle.std.specs.Prelude.{ℕ, ◌+◌, ◌==◌, ◌&&◌, not, Bool, false, if◌then◌else◌, List, length, Option, Some, None}
use Rattle.std.specs.List.{list_any, filter_map, slice_get}
use Rattle.recordings.specs.declared.recording_line.RecordedActor.{RecordedActor}
use Rattle.recordings.specs.RecordingLine.{RecordedLine, Submits, Got}
use Rattle.recordings.specs.LineParts.{is_same_actor, is_actor}
use Rattle.recordings.specs.LineSteps.{with_lines_before}
use Rattle.recordings.specs.declared.foreign_get.ForeignGet.{ForeignGet}

-- The actor that submits the job in this line, if the line is a submit of the job.
abbrev pub submitter_by : ℕ → RecordedLine → Option RecordedActor
submitter_by job (Submits actor one class pool) = if one == job then Some actor else None
submitter_by job line = None

-- The actor that submitted the job in these lines, if any.
unfoldable pub submitter_of : List RecordedLine → ℕ → Option RecordedActor
submitter_of lines job = slice_get (filter_map (submitter_by job) lines) 0

-- ---- gets by the submitter
abbrev pub is_own_get : ℕ → List RecordedLine → RecordedLine → Bool
is_own_get job before (Got actor one) = (one == job) && is_actor actor (submitter_of before job)
is_own_get job before line = false

unfoldable pub is_got_by_own : List RecordedLine → ℕ → Bool
is_got_by_own lines job = list_any (λ (before, line). is_own_get job before line) (with_lines_before lines)

-- ---- gets by another actor
abbrev pub is_foreign : Option RecordedActor → RecordedActor → Bool
is_foreign None actor = false
is_foreign (Some submitter) actor = not (is_same_actor submitter actor)

-- The foreign get in this line: a get of a job that another actor submitted and has not got.
abbrev pub foreign_get_of : List RecordedLine → RecordedLine → Option ForeignGet
foreign_get_of before (Got actor job) =
    if is_foreign (submitter_of before job) actor && not (is_got_by_own before job) then Some (record { line = length before + 1; actor = actor; job = job }) else None
foreign_get_of before line = None

unfoldable pub foreign_gets : List RecordedLine → List ForeignGet
foreign_gets lines = filter_map (λ (before, line). foreign_get_of before line) (with_lines_before lines)

abbrev pub first_foreign_get : List RecordedLine → Option ForeignGet
first_foreign_get lines = slice_get (foreign_gets lines) 0
