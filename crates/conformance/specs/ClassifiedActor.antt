-- The results of classifying the actors of a recording.
use Rattle.std.specs.Prelude.{◌≡◌, ◌≤◌, ◌↔◌, ◌⊎◌, ℕ, Bool, true, List, ◌++◌, length, count_by, string_bytes, IsTrue, All, Any, Some}
use Rattle.std.specs.List.{list_any}
use Rattle.std.specs.List.Sorted.{IsStrictlyIncreasing}
use Rattle.recordings.specs.declared.recording_line.RecordedActor.{RecordedActor}
use Rattle.recordings.specs.declared.recording_line.RecordedActor.TheVariants.{Job, Round}
use Rattle.recordings.specs.RecordingLine.{RecordedLine}
use Rattle.recordings.specs.Before.{is_begun}
use Rattle.recordings.specs.LineParts.{is_same_actor}
use Rattle.recordings.specs.LineSteps.{is_submitted}
use Rattle.recordings.specs.ActorPath.{submits}
use Rattle.recordings.specs.Path.{path_of}
use Rattle.job_bodies.specs.declared.action.Action.{Action}
use Rattle.job_bodies.specs.Plan.{Plan}
use Rattle.conformance.specs.declared.step.ActorKind.{ActorKind}
use Rattle.conformance.specs.declared.step.ActorKind.TheVariants as actor_kind
use Rattle.conformance.specs.declared.step.PathStep.{PathStep}
use Rattle.conformance.specs.FamilyMatch.{IsMostExplained, NamesMissing, class_bodies, client_bodies}
use Rattle.conformance.specs.PathMatch.{HasManyOpenLists}
use Rattle.conformance.specs.declared.classified_actor.ClassifiedActor.{ClassifiedActor}
use Rattle.conformance.specs.Label.{HasLabel, label_of}
use Rattle.conformance.specs.Family.{class_family}
use Rattle.conformance.specs.Classes.{AreClassesOf, AreStepsOf, AreKindsOf, IsSettled}

-- ---- one actor
-- The numbers are those of the classes that the job can belong to, or of the client kinds that the round can belong to.
abbrev pub CanBe : Plan → List RecordedLine → RecordedActor → List ℕ → Type 0
CanBe plan lines (Job job) classes = AreClassesOf plan lines job classes
CanBe plan lines (Round round) kinds = AreKindsOf plan lines round kinds

abbrev pub actor_kind_of : RecordedActor → ActorKind
actor_kind_of (Job job) = actor_kind.Job
actor_kind_of (Round round) = actor_kind.Round

-- The bodies of the family of this label, for a job or for a round.
abbrev pub bodies_of : Plan → RecordedActor → List ℕ → List ℕ → List (List Action)
bodies_of plan (Job job) label pool = class_bodies plan label pool
bodies_of plan (Round round) label pool = client_bodies plan label

-- With a body of the label's family, more than `MAX_OPEN_LISTS` lists of jobs can be open after one of the steps.
abbrev pub HasManyLists : Plan → RecordedActor → List ℕ → List ℕ → List PathStep → Type 0
HasManyLists plan actor label pool steps = Any (λ body. HasManyOpenLists (actor_kind_of actor) body steps) (bodies_of plan actor label pool)

-- An actor is ambiguous if it has many lists of open jobs itself, or if a job of its path is ambiguous. Each job of the path may
-- have any of the classes that it can belong to itself.
pub data IsAmbiguous (plan : Plan) (lines : List RecordedLine) : RecordedActor → Type 0 where
  itself : (actor : RecordedActor) (label pool : List ℕ) (steps : List PathStep)
      → HasLabel lines actor label pool
      → AreStepsOf plan lines (path_of lines actor) steps
      → HasManyLists plan actor label pool steps
      → IsAmbiguous plan lines actor
  below : (actor : RecordedActor) (job : ℕ)
      → list_any (submits job) (path_of lines actor) ≡ true
      → IsAmbiguous plan lines (Job job)
      → IsAmbiguous plan lines actor

-- No actor is ambiguous.
abbrev pub HasNoAmbiguousActor : Plan → List RecordedLine → Type 0
HasNoAmbiguousActor plan lines = (actor : RecordedActor) → ¬ IsAmbiguous plan lines actor

-- Each label of a recorded job refers to at most one class in its pool.
abbrev pub HasOneClassEach : Plan → List RecordedLine → Type 0
HasOneClassEach plan lines = (job : ℕ) (label pool : List ℕ) → label_of lines job ≡ Some (label, pool) → length (class_family plan label pool) ≤ 1

-- The result has the longest prefix of the path that a body of the family explains, and the reason why the prefix is not
-- longer. Each job of the path may have any of the classes that it can belong to itself. If the path matches no body, but the
-- prefix is the whole path, the result also has a job that the actor should have got before its end.
pub record IsExplained (plan : Plan) (lines : List RecordedLine) (reported : ClassifiedActor) : Type 0 where
  pub steps : List PathStep
  pub path : AreStepsOf plan lines (path_of lines reported.actor) steps
  pub most : IsMostExplained (actor_kind_of reported.actor) (bodies_of plan reported.actor (string_bytes reported.label) (string_bytes reported.pool)) steps reported.family.explained
  pub named : NamesMissing reported.family.members.items (bodies_of plan reported.actor (string_bytes reported.label) (string_bytes reported.pool)) steps reported.family.explained

-- The result is correct for these lines, whether the actor is settled or not.
pub record IsCorrectResult (plan : Plan) (lines : List RecordedLine) (reported : ClassifiedActor) : Type 0 where
  pub label : HasLabel lines reported.actor (string_bytes reported.label) (string_bytes reported.pool)
  pub path : reported.path.items ≡ path_of lines reported.actor
  pub members : IsTrue reported.family.is_decided → CanBe plan lines reported.actor reported.family.members.items
  pub ascending : IsStrictlyIncreasing reported.family.members.items
  pub explained : IsTrue reported.family.is_decided → IsExplained plan lines reported
  pub decided : ¬ IsAmbiguous plan lines reported.actor → IsTrue reported.family.is_decided

-- ---- all actors
-- The result is the result for this actor.
abbrev pub is_reported : RecordedActor → ClassifiedActor → Bool
is_reported actor reported = is_same_actor reported.actor actor

-- The list has at most one result for each actor.
abbrev pub IsOnceEach : List ClassifiedActor → Type 0
IsOnceEach reported = (actor : RecordedActor) → count_by (is_reported actor) reported ≤ 1

-- The results for all settled actors, and no others.
pub record AreResultsOfPrefix (plan : Plan) (lines : List RecordedLine) (all : List ClassifiedActor) : Type 0 where
  pub reported : All (IsCorrectResult plan lines) all
  pub once : IsOnceEach all
  pub settled : (actor : RecordedActor) → (list_any (is_reported actor) all ≡ true) ↔ IsSettled lines actor

-- The job was submitted, or the round began.
abbrev pub is_recorded : List RecordedLine → RecordedActor → Bool
is_recorded lines (Job job) = is_submitted lines job
is_recorded lines (Round round) = is_begun lines round

-- The results at the end of the lines: one for each job that was submitted and each round that began, and no others.
pub record AreAllResultsOf (plan : Plan) (lines : List RecordedLine) (all : List ClassifiedActor) : Type 0 where
  pub reported : All (IsCorrectResult plan lines) all
  pub once : IsOnceEach all
  pub each : (actor : RecordedActor) → list_any (is_reported actor) all ≡ is_recorded lines actor

-- ---- one more line
-- The results `new` are `old` and the results for all actors that become settled with the last line. These actors are settled
-- by the lines `later`, but not by the lines `before`.
pub record AddsSettled (plan : Plan) (before later : List RecordedLine) (old new : List ClassifiedActor) : Type 0 where
  pub more : List ClassifiedActor
  pub after : new ≡ old ++ more
  pub reported : All (IsCorrectResult plan later) more
  pub settled : All (λ reported. IsSettled later reported.actor) more
  pub unsettled : All (λ reported. ¬ IsSettled before reported.actor) more
  pub once : IsOnceEach more
  pub each : (actor : RecordedActor) → IsSettled later actor → IsSettled before actor ⊎ (list_any (is_reported actor) more ≡ true)
