-- The meaning of the stored paths, in terms of the lines read.
use Rattle.std.specs.Prelude.{◌≡◌, ◌&&◌, not, Bool, if◌then◌else◌, List, ◌∷◌, ◌++◌, Option, Some, None}
use Rattle.recordings.specs.declared.recording_line.RecordedActor.{RecordedActor}
use Rattle.recordings.specs.declared.recording_line.RecordedActor.TheVariants.{Job, Round}
use Rattle.recordings.specs.RecordingLine.{RecordedLine}
use Rattle.recordings.specs.Before.{is_begun, is_ended, is_done}
use Rattle.recordings.specs.Rules.{first_broken_rule}
use Rattle.recordings.specs.declared.step.RecordedStep.{RecordedStep}
use Rattle.recordings.specs.declared.paths.Paths.{Paths}
use Rattle.recordings.specs.LineSteps.{is_submitted}
use Rattle.recordings.specs.Path.{path_of}
use Rattle.recordings.specs.StoredPaths.{path_at}

-- each line keeps the rules O1 to O7, given the lines before it
pub record KeepsRules (lines : List RecordedLine) : Type 0 where
  pub unbroken : (before : List RecordedLine) (line : RecordedLine) (after : List RecordedLine) → lines ≡ before ++ line ∷ after → first_broken_rule before line ≡ None

-- the actor is live: a round that began and has not ended, or a job that was submitted and is not done
abbrev pub is_live : List RecordedLine → RecordedActor → Bool
is_live lines (Job job) = is_submitted lines job && not (is_done lines job)
is_live lines (Round round) = is_begun lines round && not (is_ended lines round)

abbrev pub live_path_of : List RecordedLine → RecordedActor → Option (List RecordedStep)
live_path_of lines actor = if is_live lines actor then Some (path_of lines actor) else None

-- the path of each live actor is stored, and no other path
pub record IsPathsOf (paths : Paths) (lines : List RecordedLine) : Type 0 where
  pub kept : (actor : RecordedActor) → path_at paths actor ≡ live_path_of lines actor
