-- The path that is returned for the line that ends an actor.
use Rattle.std.proofs.Common.{◌≡◌, List, Option, Some, None, refl}
use Rattle.std.specs.Option.{option_and_then}
use Rattle.recordings.specs.declared.recording_line.RecordedActor.{RecordedActor}
use Rattle.recordings.specs.RecordingLine.{RecordedLine}
use Rattle.recordings.specs.declared.paths.Paths.{Paths}
use Rattle.recordings.specs.StoredPaths.{path_at}
use Rattle.recordings.specs.LastLine.{ended_by, last_path_of, last_path_in}
use Rattle.recordings.specs.PathsOfLines.{live_path_of, IsPathsOf}

of_ended : (paths : Paths) (before : List RecordedLine) → IsPathsOf paths before → (ended : Option RecordedActor) → option_and_then (path_at paths) ended ≡ option_and_then (live_path_of before) ended
of_ended paths before stand None = refl
of_ended paths before stand (Some actor) = stand.kept actor

pub last_path : (paths : Paths) (before : List RecordedLine) (line : RecordedLine) → IsPathsOf paths before → last_path_in paths line ≡ last_path_of before line
last_path paths before line stand = of_ended paths before stand (ended_by line)
