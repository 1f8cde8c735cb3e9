-- The actor that a line ends, and the path of that actor.
use Rattle.std.specs.Prelude.{List, Option, Some, None}
use Rattle.std.specs.Option.{option_and_then}
use Rattle.recordings.specs.declared.recording_line.RecordedActor.{RecordedActor}
use Rattle.recordings.specs.declared.recording_line.RecordedActor.TheVariants.{Job, Round}
use Rattle.recordings.specs.RecordingLine.{RecordedLine, RoundEnds, JobEnds, JobThrew}
use Rattle.recordings.specs.declared.step.RecordedStep.{RecordedStep}
use Rattle.recordings.specs.declared.paths.Paths.{Paths}
use Rattle.recordings.specs.StoredPaths.{path_at}
use Rattle.recordings.specs.PathsOfLines.{live_path_of}

-- the actor that the line ends, if any
abbrev pub ended_by : RecordedLine → Option RecordedActor
ended_by (RoundEnds round) = Some (Round round)
ended_by (JobEnds job) = Some (Job job)
ended_by (JobThrew job) = Some (Job job)
ended_by line = None

-- the path of the actor that the line ends, if the actor is live before the line
abbrev pub last_path_of : List RecordedLine → RecordedLine → Option (List RecordedStep)
last_path_of before line = option_and_then (live_path_of before) (ended_by line)

-- the stored path of the actor that the line ends
abbrev pub last_path_in : Paths → RecordedLine → Option (List RecordedStep)
last_path_in paths line = option_and_then (path_at paths) (ended_by line)
