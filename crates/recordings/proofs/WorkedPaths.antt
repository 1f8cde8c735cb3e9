-- The paths in a short example, computed.
use Rattle.std.proofs.Common.{◌≡◌, List, [], ◌∷◌, refl}
use Rattle.recordings.specs.declared.recording_line.RecordedActor.TheVariants.{Job, Round}
use Rattle.recordings.specs.RecordingLine.{RecordedLine, RoundBegins, RoundEnds, Submits, Refused, JobStarts, JobEnds, Got, TimedOut}
use Rattle.recordings.specs.declared.step.RecordedStep.TheVariants as step
use Rattle.recordings.specs.LineSteps.{is_refused, has_submitted, has_got, steps_by_lines}
use Rattle.recordings.specs.Path.{steps_of, with_places, path_of}

-- Round 0 submits two jobs, and a third job that is refused and that the handler runs. The round gets the second job. A get
-- of the first job times out, and then the round gets it. Later gets of these jobs, a get of the refused job, and a get of
-- a job that the other round submitted are no actions.
lines : List RecordedLine
lines =
    RoundBegins 0 [] ∷ RoundBegins 1 [] ∷ Submits (Round 0) 0 [] [] ∷ Submits (Round 1) 1 [] [] ∷ Submits (Round 0) 2 [] [] ∷ JobStarts 2 ∷ JobEnds 2 ∷ Submits (Round 0) 3 [] [] ∷ Refused (Round 0) 3 ∷ JobStarts 3 ∷ JobEnds 3
    ∷ Got (Round 0) 2 ∷ TimedOut (Round 0) 0 ∷ JobStarts 0 ∷ Submits (Job 0) 4 [] [] ∷ JobEnds 0 ∷ JobStarts 1 ∷ JobEnds 1 ∷ Got (Round 0) 1 ∷ Got (Round 1) 0 ∷ Got (Round 0) 0 ∷ Got (Round 0) 3 ∷ Got (Round 0) 2 ∷ Got (Round 0) 0
    ∷ RoundEnds 0 ∷ []

own_jobs : path_of lines (Round 0) ≡ step.Submits 0 ∷ step.Submits 2 ∷ step.Gets 1 ∷ step.Gets 0 ∷ []
unfolding lines is_refused has_submitted has_got steps_by_lines steps_of with_places
own_jobs = refl

other_round : path_of lines (Round 1) ≡ step.Submits 1 ∷ []
unfolding lines is_refused has_submitted has_got steps_by_lines steps_of with_places
other_round = refl

of_a_job : path_of lines (Job 0) ≡ step.Submits 4 ∷ []
unfolding lines is_refused has_submitted has_got steps_by_lines steps_of with_places
of_a_job = refl
