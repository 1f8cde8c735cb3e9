-- The classes that are removed with a path.
use Rattle.std.proofs.Common.{◌≡◌, ◌<◌, ℕ, ◌||◌, Bool, true, false, if◌then◌else◌, List, ◌∷◌, ◌++◌, [], length, take, slice_index_or, is_some, Option, Some, None, refl, ap, sym, ◌∙◌, inl, inr}
use Rattle.std.specs.List.{list_any}
use Rattle.std.proofs.lemmas.List.Folds.{list_any_at}
use Rattle.recordings.specs.RecordingLine.{RecordedLine}
use Rattle.recordings.specs.declared.recording_line.RecordedActor.{RecordedActor}
use Rattle.recordings.specs.declared.step.RecordedStep.{RecordedStep}
use Rattle.recordings.specs.declared.step.RecordedStep.TheVariants as recorded
use Rattle.recordings.specs.ActorPath.{submits}
use Rattle.recordings.proofs.Tests.{any_more}
use Rattle.job_bodies.specs.Plan.{Plan}
use Rattle.conformance.specs.declared.job_classes.ClassTable.{ClassTable}
use Rattle.conformance.specs.declared.job_classes.JobClasses.{JobClasses}
use Rattle.conformance.specs.ActorTables.{classes_in, is_settled_step, AreRemoved, AreClassesIn, AreAllIn, AreOnce, Keeps, ReplacesClasses}
use Rattle.conformance.proofs.SettledPaths.{settled_at}
use Rattle.conformance.proofs.Words.{if_false}

none_or : (gone : Bool) (old : Option JobClasses) (known : JobClasses) → (if gone then None else old) ≡ Some known → old ≡ Some known
none_or true old known h = absurd (let e : None ≡ Some known = h in cc)
none_or false old known h = h

-- A job that is in the table after the step was in it before.
pub was_there : (old new : ClassTable) (path : List RecordedStep) → AreRemoved old path new → (job : ℕ) (known : JobClasses) → classes_in new job ≡ Some known → classes_in old job ≡ Some known
was_there old new path taken job known h = none_or (list_any (submits job) path) (classes_in old job) known (sym (taken job) ∙ h)

pub classes_still : (plan : Plan) (lines : List RecordedLine) (old new : ClassTable) (path : List RecordedStep) → AreRemoved old path new → AreClassesIn plan lines old → AreClassesIn plan lines new
classes_still plan lines old new path taken are = λ job known h. are job known (was_there old new path taken job known h)

-- A job that the path does not submit remains in the table.
pub still_there : (old new : ClassTable) (path : List RecordedStep) → AreRemoved old path new → (job : ℕ) → is_some (classes_in old job) ≡ true → list_any (submits job) path ≡ false → is_some (classes_in new job) ≡ true
still_there old new path taken job h other = ap is_some (taken job ∙ if_false (list_any (submits job) path) None (classes_in old job) other) ∙ h

pub replaces : (old mid new : ClassTable) (path : List RecordedStep) (actor : RecordedActor) (submitter : Option RecordedActor) (classes : List ℕ) (is_decided : Bool) → AreRemoved old path mid → Keeps mid actor submitter classes is_decided new → ReplacesClasses old path actor submitter classes is_decided new
replaces old mid new path actor submitter classes is_decided taken keeps = record {
  known = λ job known h. elim (keeps.known job known h) [ inl was ↦ inl (was_there old mid path taken job known was) | inr its ↦ inr its ];
  there = keeps.there;
  stay = λ job h other. keeps.stay job (still_there old mid path taken job h other);
}

any_or : (before here : Bool) (old : Option JobClasses) → (if here then None else (if before then None else old)) ≡ (if before || here then None else old)
any_or true true old = refl
any_or true false old = refl
any_or false true old = refl
any_or false false old = refl

pub taken_more : (old mid new : ClassTable) (path : List RecordedStep) (step : RecordedStep) → AreRemoved old path mid → ((one : ℕ) → classes_in new one ≡ (if submits one step then None else classes_in mid one)) → AreRemoved old (path ++ step ∷ []) new
taken_more old mid new path step taken gone = λ one.
    gone one
    ∙ (ap (λ (there : Option JobClasses). if submits one step then None else there) (taken one)
    ∙ (any_or (list_any (submits one) path) (submits one step) (classes_in old one)
    ∙ ap (λ (b : Bool). if b then None else classes_in old one) (sym (any_more (submits one) path step))))

pub settled_still : (old mid : ClassTable) (path : List RecordedStep) (i : ℕ) → i < length path → AreRemoved old (take i path) mid → AreAllIn old path → AreOnce path → is_settled_step mid (slice_index_or path i (recorded.Submits 0)) ≡ true
settled_still old mid path i low taken all once =
    settled_at mid (slice_index_or path i (recorded.Submits 0))
    (λ job h. still_there old mid (take i path) taken job (all job (list_any_at (submits job) path i (recorded.Submits 0) low h)) (once i job low h))
