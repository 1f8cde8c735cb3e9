-- When an actor is ready to be classified, and the results of classifying one or more actors.
use Rattle.std.specs.Prelude.{◌≡◌, ◌≤◌, ◌<◌, ◌⊎◌, ℕ, Bool, true, false, List, [], ◌∷◌, ◌++◌, length, is_some, string_bytes, IsTrue, All, Option, Some, None}
use Rattle.std.specs.Option.{option_and_then}
use Rattle.std.specs.List.{list_any}
use Rattle.std.specs.List.Sorted.{IsStrictlyIncreasing}
use Rattle.std.specs.declared.alloc.Global.{Global}
use Rattle.std.specs.declared.string.String.{String}
use Rattle.recordings.specs.declared.recording_line.RecordedActor.{RecordedActor}
use Rattle.recordings.specs.declared.recording_line.RecordedActor.TheVariants.{Job, Round}
use Rattle.recordings.specs.RecordingLine.{RecordedLine}
use Rattle.recordings.specs.ActorPath.{submits}
use Rattle.job_bodies.specs.Plan.{Plan}
use Rattle.conformance.specs.declared.step.PathStep.{PathStep}
use Rattle.conformance.specs.declared.step.PathState.{PathState}
use Rattle.conformance.specs.declared.family_match.FamilyMatch.{FamilyMatch}
use Rattle.conformance.specs.FamilyMatch.{IsClassOf, IsKindOf, AreExactly, IsMostExplained, NamesMissing}
use Rattle.conformance.specs.declared.actor_table.ActorTable.{ActorTable}
use Rattle.conformance.specs.declared.actor_table.UnsettledActor.{UnsettledActor}
use Rattle.conformance.specs.declared.actor_table.EndedPath.{EndedPath}
use Rattle.conformance.specs.declared.job_classes.ClassTable.{ClassTable}
use Rattle.conformance.specs.declared.classified_actor.ClassifiedActor.{ClassifiedActor}
use Rattle.conformance.specs.declared.actor_path.ActorPath.{ActorPath}
use Rattle.conformance.specs.Classes.{AreStepsOf, IsSettled}
use Rattle.conformance.specs.Represents.{AreTablesOf}
use Rattle.conformance.specs.ClassifiedActor.{IsCorrectResult, IsOnceEach, actor_kind_of, bodies_of, HasManyLists, is_reported}
use Rattle.conformance.specs.ActorTables.{in_table, classes_in, AreClassesIn, AreDecidedOn, AreAllIn, AreOnce, ReplacesClasses, AreSettledBefore, IsUnsettledAt}

-- `members` has exactly the members of the label's family with a body that the steps match. These are classes for a job, and
-- client kinds for a round.
abbrev pub AreMembersOf : Plan → RecordedActor → List ℕ → List ℕ → PathState → List PathStep → List ℕ → Type 0
AreMembersOf plan (Job job) label pool path_state steps members = AreExactly (IsClassOf plan label pool path_state steps) members
AreMembersOf plan (Round round) label pool path_state steps members = AreExactly (IsKindOf plan label path_state steps) members

-- `family` is a correct result of matching the steps against the family of the label.
pub record IsFamilyOf (plan : Plan) (actor : RecordedActor) (label pool : List ℕ) (path_state : PathState) (steps : List PathStep) (family : FamilyMatch) : Type 0 where
  pub members : IsTrue family.is_decided → AreMembersOf plan actor label pool path_state steps family.members.items
  pub explained : IsTrue family.is_decided → IsMostExplained (actor_kind_of actor) (bodies_of plan actor label pool) steps family.explained
  pub named : IsTrue family.is_decided → NamesMissing family.members.items (bodies_of plan actor label pool) steps family.explained
  pub many : family.is_decided ≡ false → HasManyLists plan actor label pool steps
  pub ascending : IsStrictlyIncreasing family.members.items

-- The submitter of a job, which may become settled when the job does. There is none for a round.
abbrev pub submitter_of : RecordedActor → Option RecordedActor → Option RecordedActor
submitter_of (Job job) submitter = submitter
submitter_of (Round round) submitter = None

abbrev pub ended_path_of : ActorTable → RecordedActor → Option EndedPath
ended_path_of actors actor = option_and_then (λ (kept : UnsettledActor). kept.ended_path) (in_table actors actor)

-- `known` is the index of the first submit of an unsettled job in the path of the ended actor. If there is no such submit,
-- `is_ready` is true.
pub record IsProgressOf (actors : ActorTable) (table : ClassTable) (actor : RecordedActor) (known : ℕ) (is_ready : Bool) : Type 0 where
  pub ended_path : EndedPath
  pub is : ended_path_of actors actor ≡ Some ended_path
  pub within : ended_path.known ≤ length ended_path.path.items → known ≤ length ended_path.path.items
  pub front : AreSettledBefore table ended_path.path.items ended_path.known → AreSettledBefore table ended_path.path.items known
  pub there : IsUnsettledAt table ended_path.path.items known
  pub ready : is_ready ≡ true → length ended_path.path.items ≤ known
  pub blocked : is_ready ≡ false → known < length ended_path.path.items

-- The actor has ended, and each job of its path is settled.
pub record IsReady (actors : ActorTable) (table : ClassTable) (actor : RecordedActor) : Type 0 where
  pub kept : UnsettledActor
  pub ended_path : EndedPath
  pub there : in_table actors actor ≡ Some kept
  pub waits : kept.ended_path ≡ Some ended_path
  pub settled : (job : ℕ) → list_any (submits job) ended_path.path.items ≡ true → is_some (classes_in table job) ≡ true

-- ---- the result for one actor
-- `family` has the members and the longest explained prefix for the path of the actor. Each job in the path has the classes
-- that it can belong to.
pub record IsFamilyBy (plan : Plan) (lines : List RecordedLine) (actor : RecordedActor) (label pool : List ℕ) (actor_path : ActorPath) (family : FamilyMatch) : Type 0 where
  pub steps : List PathStep
  pub path : AreStepsOf plan lines actor_path.path.items steps
  pub members : AreMembersOf plan actor label pool actor_path.path_state steps family.members.items
  pub explained : IsMostExplained (actor_kind_of actor) (bodies_of plan actor label pool) steps family.explained
  pub named : NamesMissing family.members.items (bodies_of plan actor label pool) steps family.explained

abbrev pub classified_as : RecordedActor → String Global → String Global → ActorPath → FamilyMatch → ClassifiedActor
classified_as actor label pool actor_path family = record { actor = actor; label = label; pool = pool; path = actor_path.path; family = family }

-- The results `new` are `old` and one result for this actor. The table of classes changes from `before` to `later` as in
-- `ReplacesClasses`.
pub record AddsResult (plan : Plan) (actor : RecordedActor) (submitter : Option RecordedActor) (label pool : String Global) (actor_path : ActorPath) (before later : ClassTable) (old new : List ClassifiedActor) : Type 0 where
  pub family : FamilyMatch
  pub after : new ≡ old ++ classified_as actor label pool actor_path family ∷ []
  pub table : ReplacesClasses before actor_path.path.items actor submitter family.members.items family.is_decided later
  pub right : (lines : List RecordedLine) → AreClassesIn plan lines before → IsTrue family.is_decided → IsFamilyBy plan lines actor (string_bytes label) (string_bytes pool) actor_path family
  pub decided : (lines : List RecordedLine) → AreClassesIn plan lines before → AreDecidedOn before actor_path.path.items → AreAllIn before actor_path.path.items → AreOnce actor_path.path.items
      → ((steps : List PathStep) → AreStepsOf plan lines actor_path.path.items steps → ¬ HasManyLists plan actor (string_bytes label) (string_bytes pool) steps) → IsTrue family.is_decided
  pub ascending : IsStrictlyIncreasing family.members.items

-- ---- the results for several actors
-- The results `new` are `old` and one result for each actor that is in the table `before` but not in the table `later`. Each
-- of these results satisfies `IsSo`.
pub record AddsResults (IsSo : ClassifiedActor → Type 0) (before later : ActorTable) (old new : List ClassifiedActor) : Type 0 where
  pub more : List ClassifiedActor
  pub after : new ≡ old ++ more
  pub reported : All IsSo more
  pub kept : All (λ reported. is_some (in_table before reported.actor) ≡ true) more
  pub gone : All (λ reported. is_some (in_table later reported.actor) ≡ false) more
  pub once : IsOnceEach more
  pub each : (actor : RecordedActor) → is_some (in_table before actor) ≡ true → (is_some (in_table later actor) ≡ true) ⊎ (list_any (is_reported actor) more ≡ true)
  pub fewer : (actor : RecordedActor) → is_some (in_table later actor) ≡ true → is_some (in_table before actor) ≡ true

-- The actor is settled, and its result is correct.
pub record IsSettledResult (plan : Plan) (lines : List RecordedLine) (one : ClassifiedActor) : Type 0 where
  pub reported : IsCorrectResult plan lines one
  pub settled : IsSettled lines one.actor

-- A step of the classification. It removes some settled actors from the table, and appends their results to the list. The
-- tables `later` and `known` have the other actors. `next` may still be in the table although it waits for no job.
pub record IsStep (plan : Plan) (lines : List RecordedLine) (before later : ActorTable) (known : ClassTable) (next : Option RecordedActor) (old new : List ClassifiedActor) : Type 0 where
  pub kept : AreTablesOf plan lines later known next
  pub tells : AddsResults (IsSettledResult plan lines) before later old new
