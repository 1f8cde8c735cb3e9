-- The classified actors if no finding concerns them.
use Rattle.std.proofs.Common.{◌≡◌, ◌<◌, ℕ, Bool, true, false, cond, ◌&&◌, not, ◌==◌, List, [], ◌∷◌, length, All, Contains, Option, Some, None, refl, ap, subst, ◌∙◌, inl, inr, string_bytes, slice_get, arith}
use Rattle.std.specs.Prelude.{◌⊎◌, Any}
use Rattle.std.specs.List.{list_any, filter_map, cons_option}
use Rattle.std.proofs.lemmas.List.Elements.{All-contains}
use Rattle.std.proofs.lemmas.Bool.{eqb-true}
use Rattle.job_bodies.specs.Plan.{Plan}
use Rattle.recordings.specs.declared.recording_line.RecordedActor.{RecordedActor}
use Rattle.recordings.specs.declared.recording_line.RecordedActor.TheVariants.{Job, Round}
use Rattle.recordings.specs.RecordingLine.{RecordedLine, Submits, RoundBegins}
use Rattle.conformance.specs.declared.classified_actor.ClassifiedActor.{ClassifiedActor}
use Rattle.conformance.specs.Label.{HasLabel, label_of, kind_of, label_in, kind_in}
use Rattle.conformance.specs.ClassifiedActor.{IsCorrectResult}
use Rattle.conformance.specs.declared.unplanned.UnplannedLabels.{UnplannedLabels}
use Rattle.conformance.specs.declared.verdicts.Verdicts.{Verdicts}
use Rattle.conformance.specs.FirstActors.{AreFirstActorsOf, Represents}
use Rattle.conformance.specs.UnplannedLabels.{AreUnplannedLabelsOf, names_class, names_kind}
use Rattle.conformance.specs.Verdicts.{IsVerdictsOf, is_empty, family_of, is_planned, is_mismatch, is_undecided}
use Rattle.conformance.proofs.Among.{here, later, stays}

-- ---- the lines that name an actor's label
-- The first result of mapping `h` over a list is that of one of its elements.
pub record First {X Y : Type 0} (h : X → Option Y) (xs : List X) (y : Y) : Type 0 where
  pub one : X
  pub among : Contains xs one
  pub gives : h one ≡ Some y

first_head : {X Y : Type 0} (h : X → Option Y) (x : X) (xs : List X) (y : Y) (given : Option Y) → h x ≡ given → slice_get (cons_option given (filter_map h xs)) 0 ≡ Some y
    → (slice_get (filter_map h xs) 0 ≡ Some y → First h xs y) → First h (x ∷ xs) y
first_head h x xs y None is there rest = let more = rest there in record { one = more.one; among = later x more.one xs more.among; gives = more.gives }
first_head h x xs y (Some z) is there rest = record { one = x; among = here x xs; gives = is ∙ there }

first_of : {X Y : Type 0} (h : X → Option Y) (xs : List X) (y : Y) → slice_get (filter_map h xs) 0 ≡ Some y → First h xs y
first_of h [] y is = absurd (grind (arith, is))
first_of h (x ∷ xs) y is = first_head h x xs y (h x) refl is (first_of h xs y)

submit_by_test : (b : Bool) (one job : ℕ) (c p class pool : List ℕ) (actor : RecordedActor) → (one == job) ≡ b → (cond {A = Option (List ℕ × List ℕ)} b (Some (c, p)) None) ≡ Some (class, pool) → Submits actor one c p ≡ Submits actor job class pool
submit_by_test true one job c p class pool actor same is =
    let number : one ≡ job = eqb-true one job same in
    let one_pair : List ℕ × List ℕ = (c, p) in
    let other_pair : List ℕ × List ℕ = (class, pool) in
    let pair : one_pair ≡ other_pair = cc in
    let c_is : c ≡ class = ap (λ (q : List ℕ × List ℕ). q.0) pair in
    let p_is : p ≡ pool = ap (λ (q : List ℕ × List ℕ). q.1) pair in
    cc
submit_by_test false one job c p class pool actor same is = absurd (grind (arith, is))

submit_line : (job : ℕ) (line : RecordedLine) (class pool : List ℕ) → label_in job line ≡ Some (class, pool) → (actor : RecordedActor) × (line ≡ Submits actor job class pool)
submit_line job (Submits actor one c p) class pool is = (actor, submit_by_test (one == job) one job c p class pool actor refl is)
submit_line job _ class pool is = absurd (grind (arith, is))

begin_by_test : (b : Bool) (one round : ℕ) (k kind : List ℕ) → (one == round) ≡ b → (cond b (Some k) None) ≡ Some kind → RoundBegins one k ≡ RoundBegins round kind
begin_by_test true one round k kind same is =
    let number : one ≡ round = eqb-true one round same in
    cc
begin_by_test false one round k kind same is = absurd (grind (arith, is))

begin_line : (round : ℕ) (line : RecordedLine) (kind : List ℕ) → kind_in round line ≡ Some kind → line ≡ RoundBegins round kind
begin_line round (RoundBegins one k) kind is = begin_by_test (one == round) one round k kind refl is
begin_line round _ kind is = absurd (grind (arith, is))

pub submitted_so : (lines : List RecordedLine) (job : ℕ) (class pool : List ℕ) → label_of lines job ≡ Some (class, pool) → (actor : RecordedActor) × Contains lines (Submits actor job class pool)
unfolding label_of
submitted_so lines job class pool is =
    let first = first_of (label_in job) lines (class, pool) is in
    let line = submit_line job first.one class pool first.gives in
    (line.0, subst (Contains lines) line.1 first.among)

pub begun_so : (lines : List RecordedLine) (round : ℕ) (kind : List ℕ) → kind_of lines round ≡ Some kind → Contains lines (RoundBegins round kind)
unfolding kind_of
begun_so lines round kind is =
    let first = first_of (kind_in round) lines kind is in
    subst (Contains lines) (begin_line round first.one kind first.gives) first.among

-- ---- no findings
pub none_first : (all first_actors : List ClassifiedActor) (one : ClassifiedActor) → AreFirstActorsOf all first_actors → first_actors ≡ [] → Contains all one → ⊥
none_first all first_actors one are none among =
    let first = All-contains (λ (x : ClassifiedActor). Any (Represents x) first_actors) all one are.each among in
    let few : length first_actors ≡ 0 = ap length none in
    let below : first.0 < length first_actors = first.2 in
    omega (arith, few, below)

empty_is : (numbers : List ℕ) → is_empty numbers ≡ true → numbers ≡ []
empty_is [] h = refl
empty_is (n ∷ more) h = absurd (grind (arith, h))

nothing_reported : (reported : Bool) → reported ≡ true → reported ≡ false → ⊥
nothing_reported true h k = absurd (cc)
nothing_reported false h k = absurd (cc)

-- The plan has the label of an actor if no label is reported as missing from the plan.
planned_if : (plan : Plan) (lines : List RecordedLine) (unplanned : UnplannedLabels) (actor : RecordedActor) (label pool : List ℕ) → AreUnplannedLabelsOf plan lines unplanned → unplanned.found.items ≡ []
    → HasLabel lines actor label pool → family_of plan actor label pool ≡ [] → ⊥
planned_if plan lines unplanned (Job job) label pool so none named empty =
    let line = submitted_so lines job label pool named in
    nothing_reported _ (so.found.classes line.0 job label pool line.1 empty) (ap (list_any (names_class label pool)) none)
planned_if plan lines unplanned (Round round) label pool so none named empty =
    nothing_reported _ (so.found.kinds round label (begun_so lines round label named.0) empty) (ap (list_any (names_kind label)) none)

not_empty : (b : Bool) → (b ≡ true → ⊥) → not b ≡ true
not_empty true h = absurd (h refl)
not_empty false h = refl

pub planned : (plan : Plan) (lines : List RecordedLine) (unplanned : UnplannedLabels) (one : ClassifiedActor) → AreUnplannedLabelsOf plan lines unplanned → unplanned.found.items ≡ [] → IsCorrectResult plan lines one → is_planned plan one ≡ true
planned plan lines unplanned one so none reported =
    not_empty _ (λ empty. planned_if plan lines unplanned one.actor (string_bytes one.label) (string_bytes one.pool) so none reported.label (empty_is _ empty))

-- ---- each classified actor
and_true : (a b : Bool) → a ≡ true → b ≡ true → (a && b) ≡ true
and_true true b h k = k
and_true false b h k = h

by_test : (b : Bool) → (b ≡ true) ⊎ (b ≡ false)
by_test true = inl refl
by_test false = inr refl

pub record IsWellFormed (one : ClassifiedActor) : Type 0 where
  pub decided : one.family.is_decided ≡ true
  pub some : is_empty one.family.members.items ≡ false

good_if : (plan : Plan) (reported : List ClassifiedActor) (verdicts : Verdicts) (one : ClassifiedActor) → IsVerdictsOf plan reported verdicts → verdicts.mismatches.actors.items ≡ [] → verdicts.undecided.actors.items ≡ []
    → Contains reported one → is_planned plan one ≡ true → IsWellFormed one
good_if plan reported verdicts one so no_mismatches no_undecided among has_label =
    let no_mismatch : is_mismatch plan one ≡ true → ⊥ = λ h. none_first _ _ one so.mismatches no_mismatches (stays (is_mismatch plan) reported one among h) in
    let not_undecided : is_undecided plan one ≡ true → ⊥ = λ h. none_first _ _ one so.undecided no_undecided (stays (is_undecided plan) reported one among h) in
    elim (by_test one.family.is_decided) [
      | inr open_yet ↦ absurd (not_undecided (and_true _ _ (ap not open_yet) has_label))
      | inl decided ↦ elim (by_test (is_empty one.family.members.items)) [
        | inl empty ↦ absurd (no_mismatch (and_true _ _ (and_true _ _ decided empty) has_label))
        | inr some ↦ record { decided = decided; some = some }
      ]
    ]

pub all_good : (plan : Plan) (lines : List RecordedLine) (reported : List ClassifiedActor) (verdicts : Verdicts) (unplanned : UnplannedLabels) (one : ClassifiedActor)
    → All (IsCorrectResult plan lines) reported → IsVerdictsOf plan reported verdicts → AreUnplannedLabelsOf plan lines unplanned
    → verdicts.mismatches.actors.items ≡ [] → verdicts.undecided.actors.items ≡ [] → unplanned.found.items ≡ [] → Contains reported one → IsWellFormed one
all_good plan lines reported verdicts unplanned one all so labels no_mismatches no_undecided no_labels among =
    good_if plan reported verdicts one so no_mismatches no_undecided among (planned plan lines unplanned one labels no_labels (All-contains (IsCorrectResult plan lines) reported one all among))
