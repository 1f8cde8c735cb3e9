-- The effect of a line on the stored paths.
use Rattle.std.specs.Prelude.{◌≡◌, ℕ, if◌then◌else◌, List, [], ◌∷◌, ◌++◌, Option, Some, None}
use Rattle.std.specs.Option.{option_map}
use Rattle.recordings.specs.declared.recording_line.RecordedActor.{RecordedActor}
use Rattle.recordings.specs.declared.recording_line.RecordedActor.TheVariants.{Job, Round}
use Rattle.recordings.specs.RecordingLine.{RecordedLine, RoundBegins, RoundEnds, Submits, Refused, JobEnds, JobThrew, Got}
use Rattle.recordings.specs.LineParts.{is_same_actor}
use Rattle.recordings.specs.declared.step.RecordedStep.{RecordedStep}
use Rattle.recordings.specs.declared.step.RecordedStep.TheVariants as step
use Rattle.recordings.specs.declared.paths.Paths.{Paths}
use Rattle.recordings.specs.ActorPath.{with_get, without_submit}
use Rattle.recordings.specs.StoredPaths.{path_in}

-- a change of the stored paths: a function from an actor and its old path to its new path; None if the actor has no path
abbrev pub Change : Type 0
Change = RecordedActor → Option (List RecordedStep) → Option (List RecordedStep)

-- each path in `new` is the changed path in `old`
pub record Changes (old : Paths) (change : Change) (new : Paths) : Type 0 where
  pub rounds : (round : ℕ) → path_in new.rounds round ≡ change (Round round) (path_in old.rounds round)
  pub jobs : (job : ℕ) → path_in new.jobs job ≡ change (Job job) (path_in old.jobs job)

abbrev pub no_change : Change
no_change one there = there

-- the change that applies a function to the path of this actor, if the actor is live
abbrev pub at_actor : RecordedActor → (List RecordedStep → List RecordedStep) → Change
at_actor actor change_path one there = if is_same_actor actor one then option_map change_path there else there

-- the change that adds the actor with an empty path
abbrev pub adds_actor : RecordedActor → Change
adds_actor actor one there = if is_same_actor actor one then Some [] else there

-- the change that removes the actor
abbrev pub removes_actor : RecordedActor → Change
removes_actor actor one there = if is_same_actor actor one then None else there

abbrev pub with_step : RecordedStep → List RecordedStep → List RecordedStep
with_step step path = path ++ step ∷ []

-- the change that appends the submit of the job to the path of the actor, and adds the job with an empty path
abbrev pub actor_submits : RecordedActor → ℕ → Change
actor_submits actor job one there = adds_actor (Job job) one (at_actor actor (with_step (step.Submits job)) one there)

abbrev pub change_of : RecordedLine → Change
change_of (RoundBegins round kind) = adds_actor (Round round)
change_of (RoundEnds round) = removes_actor (Round round)
change_of (Submits actor job class pool) = actor_submits actor job
change_of (Refused actor job) = at_actor actor (without_submit job)
change_of (JobEnds job) = removes_actor (Job job)
change_of (JobThrew job) = removes_actor (Job job)
change_of (Got actor job) = at_actor actor (with_get job)
change_of line = no_change
