-- Whether an actor has ended.
use Rattle.std.specs.Prelude.{Bool, if◌then◌else◌, List}
use Rattle.recordings.specs.declared.recording_line.RecordedActor.{RecordedActor}
use Rattle.recordings.specs.declared.recording_line.RecordedActor.TheVariants.{Job, Round}
use Rattle.recordings.specs.RecordingLine.{RecordedLine}
use Rattle.recordings.specs.Before.{is_ended, is_done}
use Rattle.conformance.specs.declared.step.PathState.{PathState}
use Rattle.conformance.specs.declared.step.PathState.TheVariants.{Whole, Prefix}

-- The actor has ended: one of the lines ends it.
abbrev pub has_ended : List RecordedLine → RecordedActor → Bool
has_ended lines (Job job) = is_done lines job
has_ended lines (Round round) = is_ended lines round

-- Whether the path of the actor is whole, or only a prefix.
abbrev pub path_state_of : List RecordedLine → RecordedActor → PathState
path_state_of lines actor = if has_ended lines actor then Whole else Prefix
