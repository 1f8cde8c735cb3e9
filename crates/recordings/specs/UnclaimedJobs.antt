-- The stored unclaimed jobs: the jobs that their submitters have not got.
use Rattle.std.specs.Prelude.{ℕ, ◌==◌, if◌then◌else◌, Option, Some, None}
use Rattle.support.specs.Numbered.{value_at}
use Rattle.recordings.specs.declared.recording_line.RecordedActor.{RecordedActor}
use Rattle.recordings.specs.RecordingLine.{RecordedLine, Submits, Got}
use Rattle.recordings.specs.LineParts.{is_same_actor}
use Rattle.recordings.specs.declared.foreign_get.ForeignGet.{ForeignGet}
use Rattle.recordings.specs.declared.unclaimed.UnclaimedJobs.{UnclaimedJobs}
use Rattle.recordings.specs.ForeignGets.{is_foreign}

abbrev pub submitter_in : UnclaimedJobs → ℕ → Option RecordedActor
submitter_in unclaimed job = value_at unclaimed.submitters job

-- The entry of a job after the actor got it: None if the actor is the job's submitter, and otherwise unchanged.
abbrev pub entry_after_get : RecordedActor → Option RecordedActor → Option RecordedActor
entry_after_get actor None = None
entry_after_get actor (Some submitter) = if is_same_actor submitter actor then None else Some submitter

-- The entry of job `one` after the line.
abbrev pub entry_after_line : RecordedLine → ℕ → Option RecordedActor → Option RecordedActor
entry_after_line (Submits actor job class pool) one there = if job == one then Some actor else there
entry_after_line (Got actor job) one there = if job == one then entry_after_get actor there else there
entry_after_line line one there = there

-- The foreign get that line `number` reports, if any: a get of an unclaimed job by an actor other than its submitter.
abbrev pub foreign_get_by : UnclaimedJobs → ℕ → RecordedLine → Option ForeignGet
foreign_get_by unclaimed number (Got actor job) = if is_foreign (submitter_in unclaimed job) actor then Some (record { line = number; actor = actor; job = job }) else None
foreign_get_by unclaimed number line = None

abbrev pub with_foreign : UnclaimedJobs → ℕ → RecordedLine → Option ForeignGet → Option ForeignGet
with_foreign unclaimed number line (Some foreign) = Some foreign
with_foreign unclaimed number line None = foreign_get_by unclaimed number line
