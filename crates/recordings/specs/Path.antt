-- The path of an actor.
use Rattle.std.specs.Prelude.{not, List, map}
use Rattle.std.specs.List.{filter, position_or_len}
use Rattle.recordings.specs.declared.recording_line.RecordedActor.{RecordedActor}
use Rattle.recordings.specs.RecordingLine.{RecordedLine}
use Rattle.recordings.specs.declared.step.RecordedStep.{RecordedStep}
use Rattle.recordings.specs.declared.step.RecordedStep.TheVariants.{Submits, Gets}
use Rattle.recordings.specs.LineSteps.{JobStep, SubmitOf, GetOf, job_of_step, is_submit_of, is_refused, steps_by_lines}

-- the actions of the actor in the lines, without the submits and gets of refused jobs
unfoldable pub steps_of : List RecordedLine → RecordedActor → List JobStep
steps_of lines actor = filter (λ step. not (is_refused lines (job_of_step step))) (steps_by_lines lines actor)

-- the action as a step of the path; a get has the index of the job's submit among the actions, and not the job
abbrev pub with_place : List JobStep → JobStep → RecordedStep
with_place steps (SubmitOf job) = Submits job
with_place steps (GetOf job) = Gets (position_or_len (is_submit_of job) steps)

unfoldable pub with_places : List JobStep → List RecordedStep
with_places steps = map (with_place steps) steps

abbrev pub path_of : List RecordedLine → RecordedActor → List RecordedStep
path_of lines actor = with_places (steps_of lines actor)
