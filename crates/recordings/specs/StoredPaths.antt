-- The stored path of an actor.
use Rattle.std.specs.Prelude.{ℕ, List, Option}
use Rattle.support.specs.Numbered.{value_at}
use Rattle.recordings.specs.declared.recording_line.RecordedActor.{RecordedActor}
use Rattle.recordings.specs.declared.recording_line.RecordedActor.TheVariants.{Job, Round}
use Rattle.recordings.specs.declared.step.RecordedStep.{RecordedStep}
use Rattle.recordings.specs.declared.path_table.PathTable.{PathTable}
use Rattle.recordings.specs.declared.paths.Paths.{Paths}

abbrev pub path_in : PathTable → ℕ → Option (List RecordedStep)
path_in table number = value_at table.paths number

abbrev pub path_at : Paths → RecordedActor → Option (List RecordedStep)
path_at paths (Job job) = path_in paths.jobs job
path_at paths (Round round) = path_in paths.rounds round
