-- The other actors, after one is removed with the jobs of its path.
use Rattle.std.proofs.Common.{◌≡◌, ◌⊎◌, ℕ, not, Bool, true, false, if◌then◌else◌, List, is_some, Option, Some, None, sym, subst, ap, ◌∙◌, inl, inr, arith}
use Rattle.std.specs.List.{list_any}
use Rattle.recordings.specs.declared.recording_line.RecordedActor.{RecordedActor}
use Rattle.recordings.specs.declared.recording_line.RecordedActor.TheVariants.{Job}
use Rattle.recordings.specs.RecordingLine.{RecordedLine}
use Rattle.recordings.specs.LineParts.{is_same_actor}
use Rattle.recordings.specs.declared.step.RecordedStep.{RecordedStep}
use Rattle.recordings.specs.ActorPath.{submits}
use Rattle.recordings.specs.LineSteps.{is_refused, has_submitted}
use Rattle.recordings.specs.Path.{path_of}
use Rattle.recordings.specs.PathsOfLines.{KeepsRules}
use Rattle.recordings.proofs.Tests.{and_first, and_second}
use Rattle.recordings.proofs.Refusals.{same_actor, one_submitter}
use Rattle.job_bodies.specs.Plan.{Plan}
use Rattle.conformance.specs.declared.actor_table.ActorTable.{ActorTable}
use Rattle.conformance.specs.declared.actor_table.UnsettledActor.{UnsettledActor}
use Rattle.conformance.specs.declared.job_classes.ClassTable.{ClassTable}
use Rattle.conformance.specs.declared.job_classes.JobClasses.{JobClasses}
use Rattle.conformance.specs.Classes.{AreClassesOf}
use Rattle.conformance.specs.ClassifiedActor.{CanBe, IsAmbiguous}
use Rattle.conformance.specs.ActorTables.{in_table, classes_in, AreClassesIn, AreDecidedIn, ReplacesClasses}
use Rattle.conformance.proofs.Words.{by_bool, apart, some_of, two_of, some_at, if_true, if_false}
use Rattle.conformance.proofs.LaterJobs.{path_submits}

-- The facts about the step.
pub record Out (lines : List RecordedLine) (old new : ActorTable) (known then_known : ClassTable) (actor : RecordedActor) (kept : UnsettledActor) (path : List RecordedStep) (members : List ℕ) (is_decided : Bool) : Type 0 where
  pub keeps : KeepsRules lines
  pub there : in_table old actor ≡ Some kept
  pub path_is : path ≡ path_of lines actor
  pub below : (one : RecordedActor) (job : ℕ) → is_some (in_table old one) ≡ true → has_submitted lines one job ≡ true → is_refused lines job ≡ false
      → (is_some (in_table old (Job job)) ≡ true) ⊎ (is_some (classes_in known job) ≡ true)
  pub submitter : (one : RecordedActor) (job : ℕ) (of : UnsettledActor) → in_table old (Job job) ≡ Some of → has_submitted lines one job ≡ true → is_refused lines job ≡ false → of.submitter ≡ Some one
  pub goes : (one : RecordedActor) → in_table new one ≡ (if is_same_actor actor one then None else in_table old one)
  pub puts : ReplacesClasses known path actor kept.submitter members is_decided then_known

pub not_true : (b : Bool) → not b ≡ true → b ≡ false
not_true b h = grind (arith, h)

-- An actor has submitted the jobs of its path, and they were not refused.
pub path_submitted : (lines : List RecordedLine) (one : RecordedActor) (job : ℕ) → list_any (submits job) (path_of lines one) ≡ true → (has_submitted lines one job ≡ true) × (is_refused lines job ≡ false)
path_submitted lines one job h =
    let split = sym (path_submits lines one job) ∙ h in
    (and_first (has_submitted lines one job) (not (is_refused lines job)) split, not_true (is_refused lines job) (and_second (has_submitted lines one job) (not (is_refused lines job)) split))

pub still : (old new : ActorTable) (actor : RecordedActor) → ((one : RecordedActor) → in_table new one ≡ (if is_same_actor actor one then None else in_table old one)) → (one : RecordedActor) (kept : UnsettledActor) → in_table new one ≡ Some kept → (is_same_actor actor one ≡ false) × (in_table old one ≡ Some kept)
still old new actor goes one kept h = by_bool (is_same_actor actor one)
    (λ same. two_of (in_table new one) kept h (goes one ∙ if_true (is_same_actor actor one) None (in_table old one) same))
    (λ other. (other, sym (goes one ∙ if_false (is_same_actor actor one) None (in_table old one) other) ∙ h))

pub stays_there : (old new : ActorTable) (actor : RecordedActor) → ((one : RecordedActor) → in_table new one ≡ (if is_same_actor actor one then None else in_table old one)) → (one : RecordedActor) → is_same_actor actor one ≡ false → is_some (in_table old one) ≡ true → is_some (in_table new one) ≡ true
stays_there old new actor goes one other h = ap is_some (goes one ∙ if_false (is_same_actor actor one) None (in_table old one) other) ∙ h

-- ---- the classes that are stored after the step
known_or : (plan : Plan) (lines : List RecordedLine) (known : ClassTable) (actor : RecordedActor) (members : List ℕ) (is_decided : Bool) → AreClassesIn plan lines known → (is_decided ≡ true → CanBe plan lines actor members) → (job : ℕ) (one : JobClasses)
    → (classes_in known job ≡ Some one) ⊎ ((actor ≡ Job job) × (one.classes.items ≡ members) × (one.is_decided ≡ is_decided)) → one.is_decided ≡ true → AreClassesOf plan lines job one.classes.items
known_or plan lines known actor members is_decided classes its job one (inl h) decided = classes job one h decided
known_or plan lines known actor members is_decided classes its job one (inr own) decided =
    subst (λ (items : List ℕ). AreClassesOf plan lines job items) (sym own.1) (subst (λ (a : RecordedActor). CanBe plan lines a members) own.0 (its (sym own.2 ∙ decided)))

pub classes_then : (plan : Plan) (lines : List RecordedLine) (known then_known : ClassTable) (path : List RecordedStep) (actor : RecordedActor) (submitter : Option RecordedActor) (members : List ℕ) (is_decided : Bool) → ReplacesClasses known path actor submitter members is_decided then_known
    → AreClassesIn plan lines known → (is_decided ≡ true → CanBe plan lines actor members) → AreClassesIn plan lines then_known
classes_then plan lines known then_known path actor submitter members is_decided puts classes its = λ job one h. known_or plan lines known actor members is_decided classes its job one (puts.known job one h)

decided_or : (plan : Plan) (lines : List RecordedLine) (known : ClassTable) (actor : RecordedActor) (members : List ℕ) (is_decided : Bool) → AreDecidedIn plan lines known → ((IsAmbiguous plan lines actor → ⊥) → is_decided ≡ true) → (job : ℕ) (one : JobClasses)
    → (classes_in known job ≡ Some one) ⊎ ((actor ≡ Job job) × (one.classes.items ≡ members) × (one.is_decided ≡ is_decided)) → (IsAmbiguous plan lines (Job job) → ⊥) → one.is_decided ≡ true
decided_or plan lines known actor members is_decided are its job one (inl h) clear = are job one h clear
decided_or plan lines known actor members is_decided are its job one (inr own) clear = own.2 ∙ its (λ ambiguous. clear (subst (λ (a : RecordedActor). IsAmbiguous plan lines a) own.0 ambiguous))

pub decided_then : (plan : Plan) (lines : List RecordedLine) (known then_known : ClassTable) (path : List RecordedStep) (actor : RecordedActor) (submitter : Option RecordedActor) (members : List ℕ) (is_decided : Bool) → ReplacesClasses known path actor submitter members is_decided then_known
    → AreDecidedIn plan lines known → ((IsAmbiguous plan lines actor → ⊥) → is_decided ≡ true) → AreDecidedIn plan lines then_known
decided_then plan lines known then_known path actor submitter members is_decided puts are its = λ job one h. decided_or plan lines known actor members is_decided are its job one (puts.known job one h)

-- ---- the jobs of the other actors
module _ {lines : List RecordedLine} {old new : ActorTable} {known then_known : ClassTable} {actor : RecordedActor} {kept : UnsettledActor} {path : List RecordedStep} {members : List ℕ} {is_decided : Bool} (o : Out lines old new known then_known actor kept path members is_decided) where
  -- A job of another actor's path is not removed.
  forgets_own : (one : RecordedActor) (job : ℕ) → is_same_actor actor one ≡ false → has_submitted lines one job ≡ true → list_any (submits job) path ≡ false
  forgets_own one job other submitted = by_bool (list_any (submits job) path)
      (λ own.
      let its = path_submitted lines actor job (subst (λ (p : List RecordedStep). list_any (submits job) p ≡ true) o.path_is own) in
      apart (is_same_actor actor one) (one_submitter actor one job lines o.keeps its.0 submitted) other)
      (λ none. none)

  pub known_still : (one : RecordedActor) (job : ℕ) → is_same_actor actor one ≡ false → has_submitted lines one job ≡ true → is_some (classes_in known job) ≡ true → is_some (classes_in then_known job) ≡ true
  known_still one job other submitted h = o.puts.stay job h (forgets_own one job other submitted)

  -- The submitter of the removed job.
  pub its_submitter : (one : RecordedActor) (job : ℕ) → actor ≡ Job job → has_submitted lines one job ≡ true → is_refused lines job ≡ false → kept.submitter ≡ Some one
  its_submitter one job is submitted unrefused = o.submitter one job kept (subst (λ (a : RecordedActor). in_table old a ≡ Some kept) is o.there) submitted unrefused

  below_or : (one : RecordedActor) (job : ℕ) → is_same_actor actor one ≡ false → has_submitted lines one job ≡ true → is_refused lines job ≡ false
      → (is_some (in_table old (Job job)) ≡ true) ⊎ (is_some (classes_in known job) ≡ true) → (is_some (in_table new (Job job)) ≡ true) ⊎ (is_some (classes_in then_known job) ≡ true)
  below_or one job other submitted unrefused (inl h) = by_bool (is_same_actor actor (Job job))
      (λ same. let is = same_actor actor (Job job) same in inr (o.puts.there job one is (its_submitter one job is submitted unrefused)))
      (λ else_one. inl (stays_there old new actor o.goes (Job job) else_one h))
  below_or one job other submitted unrefused (inr h) = inr (known_still one job other submitted h)

  pub below_then : (one : RecordedActor) (job : ℕ) → is_some (in_table new one) ≡ true → has_submitted lines one job ≡ true → is_refused lines job ≡ false → (is_some (in_table new (Job job)) ≡ true) ⊎ (is_some (classes_in then_known job) ≡ true)
  below_then one job h submitted unrefused = some_at (in_table new one) h
      (λ its is.
      let was = still old new actor o.goes one its is in
      below_or one job was.0 submitted unrefused (o.below one job (some_of (in_table old one) its was.1) submitted unrefused))
