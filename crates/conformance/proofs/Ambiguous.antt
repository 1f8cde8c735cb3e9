-- Ambiguous actors: a settled one stays ambiguous, and no actor is ambiguous if each label refers to at most one class.
use Rattle.std.proofs.Common.{◌≡◌, ◌≤◌, ℕ, List, ◌++◌, length, get_or, map, Contains, ap, sym, subst, ◌∙◌, arith}
use Rattle.std.specs.Prelude.{Any}
use Rattle.std.specs.List.{list_any}
use Rattle.std.proofs.lemmas.List.{length-map, get_or-map, get_or_default}
use Rattle.std.proofs.lemmas.List.Elements.{All-nil, All-cons}
use Rattle.recordings.specs.declared.recording_line.RecordedActor.{RecordedActor}
use Rattle.recordings.specs.declared.recording_line.RecordedActor.TheVariants.{Job, Round}
use Rattle.recordings.specs.RecordingLine.{RecordedLine}
use Rattle.recordings.specs.declared.step.RecordedStep.{RecordedStep}
use Rattle.recordings.specs.Path.{path_of}
use Rattle.recordings.specs.PathsOfLines.{KeepsRules}
use Rattle.job_bodies.specs.declared.action.Action.{Action}
use Rattle.job_bodies.specs.Plan.{Plan}
use Rattle.conformance.specs.declared.step.PathStep.{PathStep}
use Rattle.conformance.specs.declared.step.PathStep.TheVariants as step
use Rattle.recordings.specs.ActorPath.{submits}
use Rattle.conformance.specs.Family.{class_family}
use Rattle.conformance.specs.Label.{HasLabel}
use Rattle.conformance.specs.Path.{HasOneClass}
use Rattle.conformance.specs.PathMatch.{IsUnambiguous}
use Rattle.conformance.specs.Classes.{AreClassesOf, by_path, AreStepsOf, none, submit, get, IsSettled}
use Rattle.conformance.specs.ClassifiedActor.{IsAmbiguous, itself, below, HasOneClassEach}
use Rattle.conformance.proofs.EndedActors.{stays}
use Rattle.conformance.proofs.ActorLabels.{label_stays, kind_stays}
use Rattle.conformance.proofs.SettledClassesStay.{through_of, below_of, steps_stay}
use Rattle.conformance.proofs.NarrowerPaths.{contained}
use Rattle.conformance.proofs.FewLists.{few_lists}

pub any_mapped : {X Y : Type 0} (f : X → Y) (P : Y → Type 0) (xs : List X) → Any (λ x. P (f x)) xs → Any P (map f xs)
any_mapped f P xs some =
    (some.0, f some.1, omega (arith, length-map xs f, some.2), get_or-map f xs some.0 some.1 (f some.1) some.2 ∙ ap f some.3, some.4)

-- ---- later lines
pub label_stays_its : (before more : List RecordedLine) (actor : RecordedActor) (label pool : List ℕ) → KeepsRules (before ++ more) → HasLabel before actor label pool → HasLabel (before ++ more) actor label pool
label_stays_its before more (Job job) label pool keeps h = label_stays before more job (label, pool) keeps h
label_stays_its before more (Round round) label pool keeps h = (kind_stays before more round label keeps h.0, h.1)

pub ambiguous_stays : (plan : Plan) (before more : List RecordedLine) → KeepsRules (before ++ more) → (actor : RecordedActor) → IsSettled before actor → IsAmbiguous plan before actor → IsAmbiguous plan (before ++ more) actor
ambiguous_stays plan before more keeps _ is (itself actor label pool steps named path many) =
    let s = stays before more actor keeps (through_of before actor is) in
    itself actor label pool steps (label_stays_its before more actor label pool keeps named)
    (subst (λ (path : List RecordedStep). AreStepsOf plan (before ++ more) path steps) (sym s.path) (steps_stay plan before more keeps (path_of before actor) steps path (below_of before actor is))) many
ambiguous_stays plan before more keeps _ is (below actor job submitted ambiguous) =
    let s = stays before more actor keeps (through_of before actor is) in
    below actor job (ap (list_any (submits job)) s.path ∙ submitted) (ambiguous_stays plan before more keeps (Job job) (below_of before actor is job submitted) ambiguous)

-- ---- labels of one class
-- A list of one element has one element.
the_same : (xs : List ℕ) (x y : ℕ) → length xs ≤ 1 → Contains xs x → Contains xs y → x ≡ y
the_same xs x y few a b =
    let first : a.0 ≡ 0 = omega (arith, few, a.1) in
    let second : b.0 ≡ 0 = omega (arith, few, b.1) in
    sym (subst (λ (i : ℕ). get_or xs i x ≡ x) first a.2) ∙ (get_or_default xs 0 x y (omega (arith, a.1)) ∙ subst (λ (i : ℕ). get_or xs i y ≡ y) second b.2)

one_class_of : (plan : Plan) (lines : List RecordedLine) (job : ℕ) (classes : List ℕ) (class other : ℕ) → HasOneClassEach plan lines → AreClassesOf plan lines job classes → Contains classes class → Contains classes other → class ≡ other
one_class_of plan lines _ _ class other each (by_path job label pool steps classes named path exact) a b =
    the_same (class_family plan label pool) class other (each job label pool named) ((exact class).0 a).among ((exact other).0 b).among

unambiguous : (plan : Plan) (lines : List RecordedLine) (body : List Action) (path : List RecordedStep) (steps : List PathStep) → HasOneClassEach plan lines → AreStepsOf plan lines path steps → IsUnambiguous body steps
unambiguous plan lines body _ _ each none = All-nil (HasOneClass body)
unambiguous plan lines body _ _ each (submit job classes path steps known rest) =
    All-cons (HasOneClass body) (step.Submits classes) steps
    (λ class other h k _ _. one_class_of plan lines job classes.items class other each known (contained classes.items class h) (contained classes.items other k))
    (unambiguous plan lines body path steps each rest)
unambiguous plan lines body _ _ each (get place path steps rest) =
    All-cons (HasOneClass body) (step.Gets place) steps (λ class other h k _ _. cc) (unambiguous plan lines body path steps each rest)

-- If each label refers to at most one class in its pool, no actor is ambiguous.
pub none_ambiguous : (plan : Plan) (lines : List RecordedLine) → HasOneClassEach plan lines → (actor : RecordedActor) → IsAmbiguous plan lines actor → ⊥
none_ambiguous plan lines each _ (itself actor label pool steps named path many) =
    few_lists _ many.1 steps (unambiguous plan lines many.1 (path_of lines actor) steps each path) many.4
none_ambiguous plan lines each _ (below actor job submitted ambiguous) = none_ambiguous plan lines each (Job job) ambiguous
