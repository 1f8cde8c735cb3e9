-- The result for one actor is correct for the lines.
use Rattle.std.proofs.Common.{◌≡◌, ℕ, true, List, Option, sym, subst}
use Rattle.std.specs.Prelude.{string_bytes}
use Rattle.std.specs.List.{list_any}
use Rattle.recordings.specs.ActorPath.{submits}
use Rattle.std.specs.declared.alloc.Global.{Global}
use Rattle.std.specs.declared.string.String.{String}
use Rattle.recordings.specs.declared.recording_line.RecordedActor.{RecordedActor}
use Rattle.recordings.specs.declared.recording_line.RecordedActor.TheVariants.{Job, Round}
use Rattle.recordings.specs.RecordingLine.{RecordedLine}
use Rattle.recordings.specs.declared.step.RecordedStep.{RecordedStep}
use Rattle.recordings.specs.Path.{path_of}
use Rattle.recordings.specs.PathsOfLines.{KeepsRules}
use Rattle.job_bodies.specs.Plan.{Plan}
use Rattle.conformance.specs.declared.step.PathStep.{PathStep}
use Rattle.conformance.specs.declared.step.PathState.{PathState}
use Rattle.conformance.specs.FamilyMatch.{IsClassOf, IsKindOf, AreExactly}
use Rattle.conformance.specs.declared.actor_path.ActorPath.{ActorPath}
use Rattle.conformance.specs.declared.job_classes.ClassTable.{ClassTable}
use Rattle.conformance.specs.declared.classified_actor.ClassifiedActor.{ClassifiedActor}
use Rattle.conformance.specs.PathState.{path_state_of}
use Rattle.conformance.specs.Label.{HasLabel}
use Rattle.conformance.specs.Classes.{by_path, AreStepsOf}
use Rattle.conformance.specs.ActorTables.{AreClassesIn, AreDecidedIn, AreAllIn, AreOnce}
use Rattle.conformance.specs.RemainingActors.{IsActorPathOf}
use Rattle.conformance.specs.ClassifiedActor.{CanBe, itself, below, IsCorrectResult}
use Rattle.conformance.specs.ClassificationResults.{AreMembersOf, AddsResult, classified_as}
use Rattle.conformance.proofs.SubmitsOnce.{path_once}

can_be_by : (plan : Plan) (lines : List RecordedLine) (actor : RecordedActor) (label pool : List ℕ) (path_state : PathState) (steps : List PathStep) (members : List ℕ) → HasLabel lines actor label pool → path_state ≡ path_state_of lines actor
    → AreStepsOf plan lines (path_of lines actor) steps → AreMembersOf plan actor label pool path_state steps members → CanBe plan lines actor members
can_be_by plan lines (Job job) label pool path_state steps members named is stand are =
    by_path job label pool steps members named stand (subst (λ (c : PathState). AreExactly (IsClassOf plan label pool c steps) members) is are)
can_be_by plan lines (Round round) label pool path_state steps members named is stand are = record {
  kind = label;
  steps = steps;
  named = named.0;
  path = stand;
  exact = subst (λ (c : PathState). AreExactly (IsKindOf plan label c steps) members) is are;
}

module _ (plan : Plan) (lines : List RecordedLine) (actor : RecordedActor) (submitter : Option RecordedActor) (label pool : String Global) (actor_path : ActorPath) (before later : ClassTable) (old new : List ClassifiedActor)
    (t : AddsResult plan actor submitter label pool actor_path before later old new) (d : IsActorPathOf lines actor actor_path) (named : HasLabel lines actor (string_bytes label) (string_bytes pool)) (keeps : KeepsRules lines) (classes : AreClassesIn plan lines before) where
  pub can_be_reported : t.family.is_decided ≡ true → CanBe plan lines actor t.family.members.items
  can_be_reported decided =
      let f = t.right lines classes decided in
      can_be_by plan lines actor (string_bytes label) (string_bytes pool) actor_path.path_state f.steps t.family.members.items named d.path_state (subst (λ (path : List RecordedStep). AreStepsOf plan lines path f.steps) d.path f.path) f.members

  pub reported_one : AreDecidedIn plan lines before → AreAllIn before actor_path.path.items → IsCorrectResult plan lines (classified_as actor label pool actor_path t.family)
  reported_one decided all = record {
    label = named;
    path = d.path;
    members = can_be_reported;
    ascending = t.ascending;
    explained = λ is.
        let f = t.right lines classes is in
        record { steps = f.steps; path = subst (λ (path : List RecordedStep). AreStepsOf plan lines path f.steps) d.path f.path; most = f.explained; named = f.named };
    decided = λ clear.
        t.decided lines classes
        (λ job known submitted there. decided job known there (λ ambiguous. clear (below actor job (subst (λ (path : List RecordedStep). list_any (submits job) path ≡ true) d.path submitted) ambiguous)))
        all (subst AreOnce (sym d.path) (path_once lines actor keeps))
        (λ steps are many. clear (itself actor (string_bytes label) (string_bytes pool) steps named (subst (λ (path : List RecordedStep). AreStepsOf plan lines path steps) d.path are) many));
  }
