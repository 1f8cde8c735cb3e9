-- The lines determine the classes that a job can belong to.
use Rattle.std.proofs.Common.{◌≡◌, ℕ, List, [], ◌∷◌, Some, refl, ap, sym, subst}
use Rattle.std.specs.Prelude.{Contains}
use Rattle.std.specs.declared.alloc.Global.{Global}
use Rattle.std.specs.declared.vec.Vec.{Vec}
use Rattle.recordings.specs.declared.recording_line.RecordedActor.TheVariants.{Job, Round}
use Rattle.recordings.specs.RecordingLine.{RecordedLine}
use Rattle.recordings.specs.declared.step.RecordedStep.{RecordedStep}
use Rattle.recordings.specs.declared.step.RecordedStep.TheVariants as recorded
use Rattle.recordings.specs.Path.{path_of}
use Rattle.job_bodies.specs.Plan.{Plan}
use Rattle.conformance.specs.declared.step.ActorKind.TheVariants as actor_kind
use Rattle.conformance.specs.declared.step.PathStep.{PathStep}
use Rattle.conformance.specs.declared.step.PathStep.TheVariants as step
use Rattle.conformance.specs.declared.step.PathState.{PathState}
use Rattle.conformance.specs.FamilyMatch.{IsClassOf, IsKindOf, AreExactly, class_body, client_body}
use Rattle.conformance.specs.PathState.{path_state_of}
use Rattle.conformance.specs.Label.{label_of, kind_of}
use Rattle.conformance.specs.Classes.{AreClassesOf, by_path, AreStepsOf, none, submit, get, AreKindsOf}
use Rattle.conformance.specs.Narrowing.{IsNarrower}
use Rattle.conformance.proofs.NarrowerPaths.{path_within}
use Rattle.conformance.proofs.Words.{one_of}

-- ---- a path with classes
abbrev AreStepsOfPath : Plan → List RecordedLine → List RecordedStep → List PathStep → Type 0
AreStepsOfPath plan lines [] steps = steps ≡ []
AreStepsOfPath plan lines (recorded.Submits job ∷ path) steps = (classes : Vec ℕ Global) × (rest : List PathStep) × (steps ≡ step.Submits classes ∷ rest) × AreClassesOf plan lines job classes.items × AreStepsOf plan lines path rest
AreStepsOfPath plan lines (recorded.Gets place ∷ path) steps = (rest : List PathStep) × (steps ≡ step.Gets place ∷ rest) × AreStepsOf plan lines path rest

stands_as : (plan : Plan) (lines : List RecordedLine) (path : List RecordedStep) (steps : List PathStep) → AreStepsOf plan lines path steps → AreStepsOfPath plan lines path steps
stands_as plan lines _ _ none = refl
stands_as plan lines _ _ (submit job classes path steps known rest) = (classes, steps, refl, known, rest)
stands_as plan lines _ _ (get place path steps rest) = (steps, refl, rest)

record ClassesBy (plan : Plan) (lines : List RecordedLine) (job : ℕ) (classes : List ℕ) : Type 0 where
  pub class : List ℕ
  pub pool : List ℕ
  pub steps : List PathStep
  pub named : label_of lines job ≡ Some (class, pool)
  pub path : AreStepsOf plan lines (path_of lines (Job job)) steps
  pub exact : AreExactly (IsClassOf plan class pool (path_state_of lines (Job job)) steps) classes

classes_by : (plan : Plan) (lines : List RecordedLine) (job : ℕ) (classes : List ℕ) → AreClassesOf plan lines job classes → ClassesBy plan lines job classes
classes_by plan lines _ _ (by_path job class pool steps classes named path exact) = record { class = class; pool = pool; steps = steps; named = named; path = path; exact = exact }

class_within : (plan : Plan) (class class2 pool pool2 : List ℕ) (path_state : PathState) (steps other : List PathStep) → class ≡ class2 → pool ≡ pool2 → IsNarrower steps other → (n : ℕ) → IsClassOf plan class pool path_state steps n → IsClassOf plan class2 pool2 path_state other n
class_within plan class class2 pool pool2 path_state steps other c p w n h =
    subst (λ name. IsClassOf plan name pool2 path_state other n) c (subst (λ name. IsClassOf plan class name path_state other n) p
    (record { among = h.among; path_of = path_within actor_kind.Job path_state (class_body plan n) steps other w h.path_of }))

mutual
  within : (plan : Plan) (lines : List RecordedLine) (job : ℕ) (one other : List ℕ) → AreClassesOf plan lines job one → AreClassesOf plan lines job other → (n : ℕ) → Contains one n → Contains other n
  within plan lines _ _ other (by_path job class pool steps one named path exact) are n h =
      let b = classes_by plan lines job other are in
      let same : (class, pool) ≡ (b.class, b.pool) = one_of (label_of lines job) (class, pool) (b.class, b.pool) named b.named in
      (b.exact n).1 (class_within plan class b.class pool b.pool (path_state_of lines (Job job)) steps b.steps (ap (λ l. l.0) same) (ap (λ l. l.1) same) (steps_within plan lines (path_of lines (Job job)) steps b.steps path b.path) n ((exact n).0 h))

  steps_within : (plan : Plan) (lines : List RecordedLine) (path : List RecordedStep) (steps other : List PathStep) → AreStepsOf plan lines path steps → AreStepsOf plan lines path other → IsNarrower steps other
  steps_within plan lines _ _ other none s = subst (λ (d : List PathStep). IsNarrower [] d) (sym (stands_as plan lines [] other s)) tt
  steps_within plan lines _ _ other (submit job classes path steps known rest) s =
      let i = stands_as plan lines (recorded.Submits job ∷ path) other s in
      subst (λ (d : List PathStep). IsNarrower (step.Submits classes ∷ steps) d) (sym i.2) ((λ class h. within plan lines job classes.items i.0.items known i.3 class h), steps_within plan lines path steps i.1 rest i.4)
  steps_within plan lines _ _ other (get place path steps rest) s =
      let i = stands_as plan lines (recorded.Gets place ∷ path) other s in
      subst (λ (d : List PathStep). IsNarrower (step.Gets place ∷ steps) d) (sym i.1) (refl, steps_within plan lines path steps i.0 rest i.2)

kinds_within : (plan : Plan) (lines : List RecordedLine) (round : ℕ) (one other : List ℕ) → AreKindsOf plan lines round one → AreKindsOf plan lines round other → (n : ℕ) → Contains one n → Contains other n
kinds_within plan lines round one other a b n h =
    let path_state = path_state_of lines (Round round) in
    let same : a.kind ≡ b.kind = one_of (kind_of lines round) a.kind b.kind a.named b.named in
    let is = (a.exact n).0 h in
    (b.exact n).1 (subst (λ name. IsKindOf plan name path_state b.steps n) same
    (record { among = is.among; path_of = path_within actor_kind.Round path_state (client_body plan n) a.steps b.steps (steps_within plan lines (path_of lines (Round round)) a.steps b.steps a.path b.path) is.path_of }))

pub classes_determined : (plan : Plan) (lines : List RecordedLine) (job : ℕ) (one other : List ℕ) → AreClassesOf plan lines job one → AreClassesOf plan lines job other → (n : ℕ) → (Contains one n → Contains other n) × (Contains other n → Contains one n)
classes_determined plan lines job one other a b n = (within plan lines job one other a b n, within plan lines job other one b a n)

pub kinds_determined : (plan : Plan) (lines : List RecordedLine) (round : ℕ) (one other : List ℕ) → AreKindsOf plan lines round one → AreKindsOf plan lines round other → (n : ℕ) → (Contains one n → Contains other n) × (Contains other n → Contains one n)
kinds_determined plan lines round one other a b n = (kinds_within plan lines round one other a b n, kinds_within plan lines round other one b a n)
