-- The state of a classifier, as a function of the lines read.
use Rattle.std.specs.Prelude.{◌≡◌, ◌≤◌, ◌⊎◌, ℕ, true, false, List, length, string_bytes, is_some, Option, Some, None}
use Rattle.std.specs.List.{list_any}
use Rattle.recordings.specs.declared.recording_line.RecordedActor.{RecordedActor}
use Rattle.recordings.specs.declared.recording_line.RecordedActor.TheVariants.{Job}
use Rattle.recordings.specs.RecordingLine.{RecordedLine}
use Rattle.recordings.specs.ActorPath.{submits}
use Rattle.recordings.specs.LineSteps.{has_submitted, is_refused}
use Rattle.recordings.specs.Path.{path_of}
use Rattle.recordings.specs.PathsOfLines.{is_live, IsPathsOf}
use Rattle.job_bodies.specs.Plan.{Plan}
use Rattle.conformance.specs.declared.actor_table.ActorTable.{ActorTable}
use Rattle.conformance.specs.declared.actor_table.UnsettledActor.{UnsettledActor}
use Rattle.conformance.specs.declared.actor_table.EndedPath.{EndedPath}
use Rattle.conformance.specs.declared.job_classes.ClassTable.{ClassTable}
use Rattle.conformance.specs.declared.actor_classifier.ActorClassifier.{ActorClassifier}
use Rattle.conformance.specs.PathState.{has_ended}
use Rattle.conformance.specs.Label.{HasLabel}
use Rattle.conformance.specs.Classes.{IsSettled}
use Rattle.conformance.specs.ActorTables.{in_table, classes_in, AreKnown, AreSettledBefore}

-- The entry has the label and the pool that the lines give the actor.
abbrev pub IsNamed : List RecordedLine → RecordedActor → UnsettledActor → Type 0
IsNamed lines actor kept = HasLabel lines actor (string_bytes kept.label) (string_bytes kept.pool)

-- The actor has ended with this path. The jobs of the first `known` steps of the path are settled.
pub record IsEndedPathOf (lines : List RecordedLine) (known : ClassTable) (actor : RecordedActor) (ended_path : EndedPath) : Type 0 where
  pub through : has_ended lines actor ≡ true
  pub path : ended_path.path.items ≡ path_of lines actor
  pub within : ended_path.known ≤ length ended_path.path.items
  pub front : AreSettledBefore known ended_path.path.items ended_path.known

-- The path has an unsettled job, for which the actor waits.
pub record IsBlocked (actors : ActorTable) (ended_path : EndedPath) : Type 0 where
  pub job : ℕ
  pub next : list_any (submits job) ended_path.path.items ≡ true
  pub kept : is_some (in_table actors (Job job)) ≡ true

-- The table `actors` has the unsettled actors. The table `known` has the classes of the settled jobs whose submitters are
-- unsettled. The actor `ready`, if there is one, may be in `actors` although it waits for no job.
pub record AreTablesOf (plan : Plan) (lines : List RecordedLine) (actors : ActorTable) (known : ClassTable) (ready : Option RecordedActor) : Type 0 where
  pub named : (actor : RecordedActor) (kept : UnsettledActor) → in_table actors actor ≡ Some kept → IsNamed lines actor kept
  pub going : (actor : RecordedActor) (kept : UnsettledActor) → in_table actors actor ≡ Some kept → kept.ended_path ≡ None → has_ended lines actor ≡ false
  pub ended_path : (actor : RecordedActor) (kept : UnsettledActor) (ended_path : EndedPath) → in_table actors actor ≡ Some kept → kept.ended_path ≡ Some ended_path → IsEndedPathOf lines known actor ended_path
  pub blocked : (actor : RecordedActor) (kept : UnsettledActor) (ended_path : EndedPath) → in_table actors actor ≡ Some kept → kept.ended_path ≡ Some ended_path → IsBlocked actors ended_path ⊎ (ready ≡ Some actor)
  pub live : (actor : RecordedActor) → is_live lines actor ≡ true → is_some (in_table actors actor) ≡ true
  pub settled : (actor : RecordedActor) → has_ended lines actor ≡ true → in_table actors actor ≡ None → IsSettled lines actor
  pub classes : AreKnown plan lines known
  pub below : (actor : RecordedActor) (job : ℕ) → is_some (in_table actors actor) ≡ true → has_submitted lines actor job ≡ true → is_refused lines job ≡ false
      → (is_some (in_table actors (Job job)) ≡ true) ⊎ (is_some (classes_in known job) ≡ true)
  pub submitter : (actor : RecordedActor) (job : ℕ) (kept : UnsettledActor) → in_table actors (Job job) ≡ Some kept → has_submitted lines actor job ≡ true → is_refused lines job ≡ false → kept.submitter ≡ Some actor

-- The classifier is in its state after these lines.
pub record IsClassifierOf (plan : Plan) (classes : ActorClassifier) (lines : List RecordedLine) : Type 0 where
  pub paths : IsPathsOf classes.paths lines
  pub kept : AreTablesOf plan lines classes.actors classes.known None
