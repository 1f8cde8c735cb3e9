-- The tables at the end of the lines, and the result for one remaining actor.
use Rattle.std.proofs.Common.{◌≡◌, ◌⊎◌, ℕ, true, false, if◌then◌else◌, Bool, List, is_some, Option, Some, None, refl, ap, sym, subst, ◌∙◌, inl, inr}
use Rattle.std.specs.List.{list_any}
use Rattle.recordings.specs.declared.recording_line.RecordedActor.{RecordedActor}
use Rattle.recordings.specs.declared.recording_line.RecordedActor.TheVariants.{Job, Round}
use Rattle.recordings.specs.RecordingLine.{RecordedLine}
use Rattle.recordings.specs.LineParts.{is_same_actor}
use Rattle.recordings.specs.declared.step.RecordedStep.{RecordedStep}
use Rattle.recordings.specs.ActorPath.{submits}
use Rattle.recordings.specs.Path.{path_of}
use Rattle.recordings.specs.PathsOfLines.{KeepsRules}
use Rattle.job_bodies.specs.Plan.{Plan}
use Rattle.conformance.specs.declared.actor_table.ActorTable.{ActorTable}
use Rattle.conformance.specs.declared.actor_table.UnsettledActor.{UnsettledActor}
use Rattle.conformance.specs.declared.actor_table.EndedPath.{EndedPath}
use Rattle.conformance.specs.declared.actor_path.ActorPath.{ActorPath}
use Rattle.conformance.specs.declared.job_classes.ClassTable.{ClassTable}
use Rattle.conformance.specs.declared.classified_actor.ClassifiedActor.{ClassifiedActor}
use Rattle.conformance.specs.ActorTables.{in_table, classes_in, AreAllIn}
use Rattle.conformance.specs.RemainingActors.{IsAt, IsActorPathOf, IsStateAtEnd, AreNoneBelow}
use Rattle.conformance.specs.ClassifiedActor.{IsCorrectResult}
use Rattle.conformance.specs.Represents.{AreTablesOf}
use Rattle.conformance.specs.ClassificationResults.{AddsResult, AddsResults, classified_as}
use Rattle.conformance.proofs.Words.{by_option, none_some, some_of}
use Rattle.conformance.proofs.LaterJobs.{jobs_are_later}
use Rattle.conformance.proofs.BegunActors.{named_come, come_live}
use Rattle.conformance.proofs.OtherActors.{Out, path_submitted, still, below_then, classes_then, decided_then}
use Rattle.conformance.proofs.AddsResults.{reports_one}
use Rattle.conformance.proofs.OneResult.{reported_one}

-- ---- the actors in the table
at_end : (plan : Plan) (lines : List RecordedLine) (actors : ActorTable) (known : ClassTable) → AreTablesOf plan lines actors known None → (one : RecordedActor) (kept : UnsettledActor) → in_table actors one ≡ Some kept → IsAt lines one kept.ended_path
at_end plan lines actors known k one kept there = by_option kept.ended_path
    (λ ended_path is.
    let w = k.ended_path one kept ended_path there is in
    subst (λ (o : Option EndedPath). IsAt lines one o) (sym is) (w.through, w.path))
    (λ none.
    subst (λ (o : Option EndedPath). IsAt lines one o) (sym none) (come_live lines one (named_come lines one _ _ (k.named one kept there)) (k.going one kept there none)))

pub left_of : (plan : Plan) (lines : List RecordedLine) (actors : ActorTable) (known : ClassTable) → AreTablesOf plan lines actors known None → IsStateAtEnd plan lines actors known
left_of plan lines actors known k = record {
  named = k.named;
  at = at_end plan lines actors known k;
  classes = k.classes.classes;
  decided = k.classes.decided;
  below = k.below;
  submitter = k.submitter;
}

-- ---- an actor that is not in the table
below_same : (old new : ActorTable) (known : ClassTable) → ((one : RecordedActor) → in_table new one ≡ in_table old one) → (job : ℕ) → (is_some (in_table old (Job job)) ≡ true) ⊎ (is_some (classes_in known job) ≡ true) → (is_some (in_table new (Job job)) ≡ true) ⊎ (is_some (classes_in known job) ≡ true)
below_same old new known same job (inl h) = inl (ap is_some (same (Job job)) ∙ h)
below_same old new known same job (inr h) = inr h

pub left_same : (plan : Plan) (lines : List RecordedLine) (old new : ActorTable) (known : ClassTable) → ((one : RecordedActor) → in_table new one ≡ in_table old one) → IsStateAtEnd plan lines old known → IsStateAtEnd plan lines new known
left_same plan lines old new known same l = record {
  named = λ one kept h. l.named one kept (sym (same one) ∙ h);
  at = λ one kept h. l.at one kept (sym (same one) ∙ h);
  classes = l.classes;
  decided = l.decided;
  below = λ one job h submitted unrefused. below_same old new known same job (l.below one job (ap is_some (sym (same one)) ∙ h) submitted unrefused);
  submitter = λ one job kept h. l.submitter one job kept (sym (same (Job job)) ∙ h);
}

gone_either : (b : Bool) (there : Option UnsettledActor) → (b ≡ true → there ≡ None) → (if b then None else there) ≡ there
gone_either true there h = sym (h refl)
gone_either false there h = refl

pub same_without : (old new : ActorTable) (actor : RecordedActor) → in_table old actor ≡ None → ((one : RecordedActor) → is_same_actor actor one ≡ true → actor ≡ one) → ((one : RecordedActor) → in_table new one ≡ (if is_same_actor actor one then None else in_table old one)) → (one : RecordedActor) → in_table new one ≡ in_table old one
same_without old new actor none same goes one = goes one ∙ gone_either (is_same_actor actor one) (in_table old one) (λ is. subst (λ (a : RecordedActor). in_table old a ≡ None) (same one is) none)

-- ---- an actor that is in the table
none_there : (lines : List RecordedLine) (actors : ActorTable) (actor : RecordedActor) → KeepsRules lines → AreNoneBelow actors actor → (job : ℕ) → list_any (submits job) (path_of lines actor) ≡ true → in_table actors (Job job) ≡ None
none_there lines actors (Job one) keeps none job h = none job (jobs_are_later lines one job keeps h)
none_there lines actors (Round round) keeps none job h = none job

known_or_there : (actors : ActorTable) (known : ClassTable) (job : ℕ) → in_table actors (Job job) ≡ None → (is_some (in_table actors (Job job)) ≡ true) ⊎ (is_some (classes_in known job) ≡ true) → is_some (classes_in known job) ≡ true
known_or_there actors known job none (inl h) = none_some (in_table actors (Job job)) none h
known_or_there actors known job none (inr h) = h

module _ (plan : Plan) (lines : List RecordedLine) (keeps : KeepsRules lines) (before later : ActorTable) (known then_known : ClassTable) (actor : RecordedActor) (kept : UnsettledActor) (there : in_table before actor ≡ Some kept) (actor_path : ActorPath) (old new : List ClassifiedActor)
    (remaining : IsStateAtEnd plan lines before known) (none : AreNoneBelow before actor) (by : IsActorPathOf lines actor actor_path) (t : AddsResult plan actor kept.submitter kept.label kept.pool actor_path known then_known old new)
    (goes : (one : RecordedActor) → in_table later one ≡ (if is_same_actor actor one then None else in_table before one)) where
  all_in : AreAllIn known actor_path.path.items
  all_in = λ job h.
      let own : list_any (submits job) (path_of lines actor) ≡ true = subst (λ (path : List RecordedStep). list_any (submits job) path ≡ true) by.path h in
      let its = path_submitted lines actor job own in
      known_or_there before known job (none_there lines before actor keeps none job own) (remaining.below actor job (some_of (in_table before actor) kept there) its.0 its.1)

  its_reported : IsCorrectResult plan lines (classified_as actor kept.label kept.pool actor_path t.family)
  its_reported = reported_one plan lines actor kept.submitter kept.label kept.pool actor_path known then_known old new t by (remaining.named actor kept there) keeps remaining.classes remaining.decided all_in

  out : Out lines before later known then_known actor kept actor_path.path.items t.family.members.items t.family.is_decided
  out = record { keeps = keeps; there = there; path_is = by.path; below = remaining.below; submitter = remaining.submitter; goes = goes; puts = t.table }

  pub left_then : IsStateAtEnd plan lines later then_known
  left_then = record {
    named = λ one its h. remaining.named one its (still before later actor goes one its h).1;
    at = λ one its h. remaining.at one its (still before later actor goes one its h).1;
    classes = classes_then plan lines known then_known actor_path.path.items actor kept.submitter t.family.members.items t.family.is_decided t.table remaining.classes its_reported.members;
    decided = decided_then plan lines known then_known actor_path.path.items actor kept.submitter t.family.members.items t.family.is_decided t.table remaining.decided its_reported.decided;
    below = below_then out;
    submitter = λ one job its h. remaining.submitter one job its (still before later actor goes (Job job) its h).1;
  }

  pub reports_left : AddsResults (IsCorrectResult plan lines) before later old new
  reports_left = reports_one (IsCorrectResult plan lines) before later actor kept there goes (classified_as actor kept.label kept.pool actor_path t.family) refl its_reported old new t.after
