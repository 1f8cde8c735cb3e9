-- Later lines do not change the classes of a settled job.
use Rattle.std.proofs.Common.{◌≡◌, ℕ, ◌==◌, ◌||◌, Bool, true, false, if◌then◌else◌, List, ◌∷◌, ◌++◌, refl, ap, sym, subst, ◌∙◌}
use Rattle.std.specs.List.{list_any}
use Rattle.recordings.specs.declared.recording_line.RecordedActor.{RecordedActor}
use Rattle.recordings.specs.declared.recording_line.RecordedActor.TheVariants.{Job, Round}
use Rattle.recordings.specs.RecordingLine.{RecordedLine}
use Rattle.recordings.specs.declared.step.RecordedStep.{RecordedStep}
use Rattle.recordings.specs.declared.step.RecordedStep.TheVariants as recorded
use Rattle.recordings.specs.ActorPath.{submits}
use Rattle.recordings.specs.Path.{path_of}
use Rattle.recordings.specs.PathsOfLines.{KeepsRules}
use Rattle.recordings.proofs.SubmitIndices.{same_self}
use Rattle.job_bodies.specs.Plan.{Plan}
use Rattle.conformance.specs.declared.step.PathStep.{PathStep}
use Rattle.conformance.specs.declared.step.PathState.{PathState}
use Rattle.conformance.specs.declared.step.PathState.TheVariants.{Whole, Prefix}
use Rattle.conformance.specs.FamilyMatch.{IsClassOf, IsKindOf, AreExactly}
use Rattle.conformance.specs.PathState.{has_ended, path_state_of}
use Rattle.conformance.specs.Classes.{AreClassesOf, by_path, AreStepsOf, none, submit, get, AreKindsOf, IsSettled, settled}
use Rattle.conformance.proofs.EndedActors.{stays}
use Rattle.conformance.proofs.ActorLabels.{label_stays, kind_stays}

-- ---- settled actors
pub through_of : (lines : List RecordedLine) (actor : RecordedActor) → IsSettled lines actor → has_ended lines actor ≡ true
through_of lines _ (settled actor through below) = through

pub below_of : (lines : List RecordedLine) (actor : RecordedActor) → IsSettled lines actor → (job : ℕ) → list_any (submits job) (path_of lines actor) ≡ true → IsSettled lines (Job job)
below_of lines _ (settled actor through below) = below

pub settled_stays : (before more : List RecordedLine) → KeepsRules (before ++ more) → (actor : RecordedActor) → IsSettled before actor → IsSettled (before ++ more) actor
settled_stays before more kept _ (settled actor through below) =
    let s = stays before more actor kept through in
    settled actor s.through (λ job h. settled_stays before more kept (Job job) (below job (ap (list_any (submits job)) (sym s.path) ∙ h)))

-- ---- classes
course_same : (before later : List RecordedLine) (actor : RecordedActor) → has_ended before actor ≡ true → has_ended later actor ≡ true → path_state_of before actor ≡ path_state_of later actor
course_same before later actor h g = ap (λ (b : Bool). if b then Whole else Prefix) (h ∙ sym g)

first_of : (job : ℕ) (path : List RecordedStep) → list_any (submits job) (recorded.Submits job ∷ path) ≡ true
first_of job path = ap (λ b. b || list_any (submits job) path) (same_self job)

or_right : (a b : Bool) → b ≡ true → (a || b) ≡ true
or_right true b h = refl
or_right false b h = h

mutual
  pub classes_stay : (plan : Plan) (before more : List RecordedLine) → KeepsRules (before ++ more) → (job : ℕ) (classes : List ℕ) → AreClassesOf plan before job classes → IsSettled before (Job job) → AreClassesOf plan (before ++ more) job classes
  classes_stay plan before more kept _ _ (by_path job class pool steps classes named path exact) is =
      let through = through_of before (Job job) is in
      let s = stays before more (Job job) kept through in
      by_path job class pool steps classes (label_stays before more job (class, pool) kept named)
      (subst (λ one. AreStepsOf plan (before ++ more) one steps) (sym s.path) (steps_stay plan before more kept (path_of before (Job job)) steps path (below_of before (Job job) is)))
      (subst (λ (path_state : PathState). AreExactly (IsClassOf plan class pool path_state steps) classes) (course_same before (before ++ more) (Job job) through s.through) exact)

  pub steps_stay : (plan : Plan) (before more : List RecordedLine) → KeepsRules (before ++ more) → (path : List RecordedStep) (steps : List PathStep) → AreStepsOf plan before path steps → ((job : ℕ) → list_any (submits job) path ≡ true → IsSettled before (Job job)) → AreStepsOf plan (before ++ more) path steps
  steps_stay plan before more kept _ _ none below = none
  steps_stay plan before more kept _ _ (submit job classes path steps known rest) below =
      submit job classes path steps (classes_stay plan before more kept job classes.items known (below job (first_of job path)))
      (steps_stay plan before more kept path steps rest (λ one h. below one (or_right (job == one) (list_any (submits one) path) h)))
  steps_stay plan before more kept _ _ (get place path steps rest) below = get place path steps (steps_stay plan before more kept path steps rest below)

pub kinds_stay : (plan : Plan) (before more : List RecordedLine) → KeepsRules (before ++ more) → (round : ℕ) (kinds : List ℕ) → AreKindsOf plan before round kinds → IsSettled before (Round round) → AreKindsOf plan (before ++ more) round kinds
kinds_stay plan before more kept round kinds are is =
    let through = through_of before (Round round) is in
    let s = stays before more (Round round) kept through in
    record {
      kind = are.kind;
      steps = are.steps;
      named = kind_stays before more round are.kind kept are.named;
      path = subst (λ one. AreStepsOf plan (before ++ more) one are.steps) (sym s.path) (steps_stay plan before more kept (path_of before (Round round)) are.steps are.path (below_of before (Round round) is));
      exact = subst (λ (path_state : PathState). AreExactly (IsKindOf plan are.kind path_state are.steps) kinds) (course_same before (before ++ more) (Round round) through s.through) are.exact;
    }
