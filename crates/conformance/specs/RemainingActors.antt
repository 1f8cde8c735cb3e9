-- The state of a classifier at the end of the lines, while it classifies the remaining actors.
use Rattle.std.specs.Prelude.{◌≡◌, ◌<◌, ◌⊎◌, ℕ, nat_eq, true, false, List, is_some, Option, Some, None}
use Rattle.std.specs.Set.{is_member}
use Rattle.recordings.specs.declared.recording_line.RecordedActor.{RecordedActor}
use Rattle.recordings.specs.declared.recording_line.RecordedActor.TheVariants.{Job, Round}
use Rattle.recordings.specs.RecordingLine.{RecordedLine}
use Rattle.recordings.specs.LineSteps.{has_submitted, is_refused}
use Rattle.recordings.specs.Path.{path_of}
use Rattle.recordings.specs.PathsOfLines.{is_live}
use Rattle.job_bodies.specs.Plan.{Plan}
use Rattle.conformance.specs.declared.actor_table.ActorTable.{ActorTable}
use Rattle.conformance.specs.declared.actor_table.UnsettledActor.{UnsettledActor}
use Rattle.conformance.specs.declared.actor_table.EndedPath.{EndedPath}
use Rattle.conformance.specs.declared.actor_path.ActorPath.{ActorPath}
use Rattle.conformance.specs.declared.job_classes.ClassTable.{ClassTable}
use Rattle.conformance.specs.PathState.{has_ended, path_state_of}
use Rattle.conformance.specs.ActorTables.{in_table, classes_in, AreClassesIn, AreDecidedIn}
use Rattle.conformance.specs.Represents.{IsNamed}

-- The actor has ended with this path. If there is no path, the actor is open.
abbrev pub IsAt : List RecordedLine → RecordedActor → Option EndedPath → Type 0
IsAt lines actor (Some ended_path) = (has_ended lines actor ≡ true) × (ended_path.path.items ≡ path_of lines actor)
IsAt lines actor None = is_live lines actor ≡ true

-- `actor_path` has the path of the actor in these lines, and whether the actor has ended.
pub record IsActorPathOf (lines : List RecordedLine) (actor : RecordedActor) (actor_path : ActorPath) : Type 0 where
  pub path : actor_path.path.items ≡ path_of lines actor
  pub path_state : actor_path.path_state ≡ path_state_of lines actor

-- The table `actors` has the actors that are not yet classified. The table `known` has the classes of each classified job
-- whose submitter is in `actors`.
pub record IsStateAtEnd (plan : Plan) (lines : List RecordedLine) (actors : ActorTable) (known : ClassTable) : Type 0 where
  pub named : (actor : RecordedActor) (kept : UnsettledActor) → in_table actors actor ≡ Some kept → IsNamed lines actor kept
  pub at : (actor : RecordedActor) (kept : UnsettledActor) → in_table actors actor ≡ Some kept → IsAt lines actor kept.ended_path
  pub classes : AreClassesIn plan lines known
  pub decided : AreDecidedIn plan lines known
  pub below : (actor : RecordedActor) (job : ℕ) → is_some (in_table actors actor) ≡ true → has_submitted lines actor job ≡ true → is_refused lines job ≡ false
      → (is_some (in_table actors (Job job)) ≡ true) ⊎ (is_some (classes_in known job) ≡ true)
  pub submitter : (actor : RecordedActor) (job : ℕ) (kept : UnsettledActor) → in_table actors (Job job) ≡ Some kept → has_submitted lines actor job ≡ true → is_refused lines job ≡ false → kept.submitter ≡ Some actor

-- The table has no job that the actor may have submitted. A job submits only jobs with larger numbers, and a round may submit
-- any job.
abbrev pub AreNoneBelow : ActorTable → RecordedActor → Type 0
AreNoneBelow actors (Job job) = (one : ℕ) → job < one → in_table actors (Job one) ≡ None
AreNoneBelow actors (Round round) = (one : ℕ) → in_table actors (Job one) ≡ None

-- The list has the number of each job in the table.
abbrev pub AreJobsAmong : ActorTable → List ℕ → Type 0
AreJobsAmong actors numbers = (job : ℕ) → is_some (in_table actors (Job job)) ≡ true → is_member nat_eq numbers job ≡ true

abbrev pub AreRoundsAmong : ActorTable → List ℕ → Type 0
AreRoundsAmong actors numbers = (round : ℕ) → is_some (in_table actors (Round round)) ≡ true → is_member nat_eq numbers round ≡ true

abbrev pub HasNoJobs : ActorTable → Type 0
HasNoJobs actors = (job : ℕ) → in_table actors (Job job) ≡ None

abbrev pub HasNoRounds : ActorTable → Type 0
HasNoRounds actors = (round : ℕ) → in_table actors (Round round) ≡ None
