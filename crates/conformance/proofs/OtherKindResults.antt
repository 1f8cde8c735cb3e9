-- The rounds that are classified with another kind than the first of their label.
use Rattle.std.proofs.Common.{◌≡◌, ℕ, ◌==◌, Bool, true, false, cond, if◌then◌else◌, List, [], ◌∷◌, ◌++◌, All, Contains, is_some, string_bytes, slice_get, Option, Some, None, refl, ap, sym, subst, ◌∙◌, inl, inr, arith}
use Rattle.std.specs.Prelude.{◌⊎◌}
use Rattle.std.specs.Option.{option_and_then}
use Rattle.std.proofs.lemmas.Bool.{eqb-true, eq-eqb}
use Rattle.std.proofs.lemmas.List.Elements.{All-contains, Contains-push, Contains-push_cases, Contains-append_left}
use Rattle.support.specs.Numbered.{value_at}
use Rattle.recordings.specs.declared.recording_line.RecordedActor.{RecordedActor}
use Rattle.recordings.specs.declared.recording_line.RecordedActor.TheVariants.{Round}
use Rattle.recordings.specs.RecordingLine.{RecordedLine}
use Rattle.job_bodies.specs.Plan.{Plan}
use Rattle.conformance.specs.RoundExcesses as rounds
use Rattle.conformance.specs.declared.classified_actor.ClassifiedActor.{ClassifiedActor}
use Rattle.conformance.specs.Label.{HasLabel, kind_of}
use Rattle.conformance.specs.ClassifiedActor.{IsCorrectResult}
use Rattle.conformance.specs.declared.other_kinds.OtherKinds.{OtherKinds}
use Rattle.conformance.specs.FirstKinds.{round_and_kind, AreFirstKinds}
use Rattle.conformance.specs.OtherKinds.{first_of, is_same_kind, unless_first, other_kind_of, HasOtherKind, AreOtherKinds, kind_or, AreKindsBy}
use Rattle.conformance.proofs.Among.{here, later, head_or_later, is_among_none}
use Rattle.conformance.proofs.KindsByResults.{pair_some, pair_is, round_of}

-- ---- the kind of one round
by_test : (same : Bool) (round : ℕ) (kind : Option ℕ) (other : ℕ × Option ℕ) → (cond {A = Option (ℕ × Option ℕ)} same None (Some (round, kind))) ≡ Some other → pair_some round kind ≡ Some other
by_test true round kind other is = absurd (grind (arith, is))
by_test false round kind other is = is

-- A round of another kind can belong to that kind.
other_given : (first : Option ℕ) (given : Option (ℕ × Option ℕ)) (round : ℕ) (kind : Option ℕ) → unless_first first given ≡ Some (round, kind) → given ≡ Some (round, kind)
other_given first None round kind is = absurd (grind (arith, is))
other_given first (Some (r, k)) round kind is = by_test (is_same_kind first k) r k (round, kind) is

-- A round that can belong to some kind, and to no other kind than the first, belongs to the first.
first_test : (same : Bool) (first k round : ℕ) → (first == k) ≡ same → (cond {A = Option (ℕ × Option ℕ)} same None (Some (round, Some k))) ≡ None → Some first ≡ Some k
first_test true first k round same is = ap Some (eqb-true first k same)
first_test false first k round same is = absurd (grind (arith, is))

no_other : (first : Option ℕ) (round : ℕ) (kind : Option ℕ) → unless_first first (Some (round, kind)) ≡ None → first ≡ kind
no_other None round None is = refl
no_other (Some first) round (Some k) is = first_test (first == k) first k round refl is
no_other None round (Some k) is = absurd (grind (arith, is))
no_other (Some first) round None is = absurd (grind (arith, is))

-- ---- whether a round is classified with a kind
record IsResultFor (reported : List ClassifiedActor) (round : ℕ) : Type 0 where
  one : ClassifiedActor
  kind : Option ℕ
  among : Contains reported one
  is : round_and_kind one ≡ Some (round, kind)

abbrev IsNotReported : List ClassifiedActor → ℕ → Type 0
IsNotReported reported round = (one : ClassifiedActor) (kind : Option ℕ) → Contains reported one → ¬ (round_and_kind one ≡ Some (round, kind))

abbrev kind_reported : ℕ → Option (ℕ × Option ℕ) → Option (Option ℕ)
kind_reported round None = None
kind_reported round (Some (r, kind)) = if r == round then Some kind else None

same_round : (same : Bool) (r round : ℕ) (k kind : Option ℕ) → (r == round) ≡ same → (if same then Some k else None) ≡ Some kind → pair_some r k ≡ pair_some round kind
same_round true r round k kind same is =
    let round_is : r ≡ round = eqb-true r round same in
    let kind_is : k ≡ kind = cc in
    cc
same_round false r round k kind same is = absurd (grind (arith, is))

reported_so : (given : Option (ℕ × Option ℕ)) (round : ℕ) (kind : Option ℕ) → kind_reported round given ≡ Some kind → given ≡ Some (round, kind)
reported_so None round kind is = absurd (grind (arith, is))
reported_so (Some (r, k)) round kind is = same_round (r == round) r round k kind refl is

reported_then : (given : Option (ℕ × Option ℕ)) (round : ℕ) (kind : Option ℕ) → given ≡ Some (round, kind) → kind_reported round given ≡ Some kind
reported_then given round kind is = ap (kind_reported round) is ∙ ap (λ (b : Bool). if b then Some kind else None) (eq-eqb round round refl)

not_reported_first : (first : ClassifiedActor) (reported : List ClassifiedActor) (round : ℕ) → kind_reported round (round_and_kind first) ≡ None → IsNotReported reported round → IsNotReported (first ∷ reported) round
not_reported_first first reported round none others one kind among is =
    elim (head_or_later first one reported among) [
      | inl same ↦ (let no_kind : None ≡ Some kind = sym none ∙ (ap (λ (x : ClassifiedActor). kind_reported round (round_and_kind x)) same ∙ reported_then (round_and_kind one) round kind is) in cc)
      | inr more ↦ others one kind more is
    ]

reported_first : (first : ClassifiedActor) (reported : List ClassifiedActor) (round : ℕ) (given : Option (Option ℕ)) → kind_reported round (round_and_kind first) ≡ given → IsResultFor reported round ⊎ IsNotReported reported round → IsResultFor (first ∷ reported) round ⊎ IsNotReported (first ∷ reported) round
reported_first first reported round (Some kind) given rest = inl (record { one = first; kind = kind; among = here first reported; is = reported_so (round_and_kind first) round kind given })
reported_first first reported round None given rest =
    elim rest [
      | inl so ↦ inl (record { one = so.one; kind = so.kind; among = later first so.one reported so.among; is = so.is })
      | inr none ↦ inr (not_reported_first first reported round given none)
    ]

reported_or_not : (reported : List ClassifiedActor) (round : ℕ) → IsResultFor reported round ⊎ IsNotReported reported round
reported_or_not [] round = inr (λ one kind among is. is_among_none one among)
reported_or_not (first ∷ reported) round = reported_first first reported round (kind_reported round (round_and_kind first)) refl (reported_or_not reported round)

-- ---- one more classified actor
pub none_other : (plan : Plan) (others : OtherKinds) → ((round : ℕ) → value_at others.kinds round ≡ None) → AreOtherKinds plan [] others
none_other plan others none = record {
  sound = λ round kind is. absurd (let no_kind : None ≡ Some kind = sym (none round) ∙ is in cc);
  complete = λ round kind other. absurd (is_among_none other.one other.among);
  none = λ h. none;
}

earlier : (plan : Plan) (reported : List ClassifiedActor) (one : ClassifiedActor) (round : ℕ) (kind : Option ℕ) → HasOtherKind plan reported round kind → HasOtherKind plan (reported ++ one ∷ []) round kind
earlier plan reported one round kind other = record { one = other.one; among = Contains-append_left reported (one ∷ []) other.one other.among; is = other.is }

pub same_others : (plan : Plan) (reported : List ClassifiedActor) (one : ClassifiedActor) (others : OtherKinds) → other_kind_of plan one ≡ None → AreOtherKinds plan reported others → AreOtherKinds plan (reported ++ one ∷ []) others
same_others plan reported one others nothing so = record {
  sound = λ round kind is. earlier plan reported one round kind (so.sound round kind is);
  complete = λ round kind other. elim (Contains-push_cases reported one other.one other.among) [
    | inl before ↦ so.complete round kind (record { one = other.one; among = before; is = other.is })
    | inr same ↦ absurd (let no_round : None ≡ Some (round, kind) = sym nothing ∙ (ap (other_kind_of plan) same ∙ other.is) in cc)
  ];
  none = so.none;
}

sound_at : (plan : Plan) (reported : List ClassifiedActor) (one : ClassifiedActor) (others : OtherKinds) (r : ℕ) (k : Option ℕ) (round : ℕ) (kind : Option ℕ) (same : Bool) → other_kind_of plan one ≡ Some (r, k) → AreOtherKinds plan reported others → (r == round) ≡ same
    → (if same then Some k else value_at others.kinds round) ≡ Some kind → HasOtherKind plan (reported ++ one ∷ []) round kind
sound_at plan reported one others r k round kind true reported_is so same is = record { one = one; among = Contains-push reported one; is = reported_is ∙ same_round true r round k kind same is }
sound_at plan reported one others r k round kind false reported_is so same is = earlier plan reported one round kind (so.sound round kind is)

some_still : (same : Bool) (k : Option ℕ) (there : Option (Option ℕ)) → is_some there ≡ true → is_some (if same then Some k else there) ≡ true
some_still true k there h = refl
some_still false k there h = h

pub one_other : (plan : Plan) (reported : List ClassifiedActor) (one : ClassifiedActor) (old new : OtherKinds) (r : ℕ) (k : Option ℕ) → other_kind_of plan one ≡ Some (r, k) → ((n : ℕ) → value_at new.kinds n ≡ (if r == n then Some k else value_at old.kinds n)) → new.has_any ≡ true
    → AreOtherKinds plan reported old → AreOtherKinds plan (reported ++ one ∷ []) new
one_other plan reported one old new r k reported_is values any so = record {
  sound = λ round kind is. sound_at plan reported one old r k round kind (r == round) reported_is so refl (sym (values round) ∙ is);
  complete = λ round kind other. ap is_some (values round) ∙ elim (Contains-push_cases reported one other.one other.among) [
    | inl before ↦ some_still (r == round) k (value_at old.kinds round) (so.complete round kind (record { one = other.one; among = before; is = other.is }))
    | inr same ↦
        let both = pair_is r k round kind (sym reported_is ∙ (ap (other_kind_of plan) same ∙ other.is)) in
        ap (λ (b : Bool). is_some (if b then Some k else value_at old.kinds round)) (eq-eqb r round both.0)
  ];
  none = λ h. absurd (let no : true ≡ false = sym any ∙ h in cc);
}

-- ---- each round has the given kind
is_first : (plan : Plan) (lines : List RecordedLine) (one : ClassifiedActor) (round : ℕ) (label : List ℕ) → HasLabel lines one.actor (string_bytes one.label) (string_bytes one.pool) → one.actor ≡ Round round → kind_of lines round ≡ Some label
    → string_bytes one.label ≡ label
is_first plan lines one round label named actor_is label_is =
    let so : HasLabel lines (Round round) (string_bytes one.label) (string_bytes one.pool) = subst (λ (a : RecordedActor). HasLabel lines a (string_bytes one.label) (string_bytes one.pool)) actor_is named in
    let both : Some (string_bytes one.label) ≡ Some label = sym so.0 ∙ label_is in
    cc

counted_as : (kinds : List (Option ℕ)) (round : ℕ) (kind : Option ℕ) → slice_get kinds round ≡ Some kind → rounds.kind_of kinds round ≡ kind
counted_as kinds round kind is = ap (option_and_then (λ (k : Option ℕ). k)) is

-- If the table has no other kind for the round, no actor is classified with one.
not_other : (plan : Plan) (reported : List ClassifiedActor) (others : OtherKinds) (one : ClassifiedActor) (round : ℕ) (kind : Option ℕ) (given : Option (ℕ × Option ℕ)) → AreOtherKinds plan reported others → Contains reported one → round_and_kind one ≡ Some (round, kind)
    → value_at others.kinds round ≡ None → other_kind_of plan one ≡ given → unless_first (first_of plan (string_bytes one.label)) (Some (round, kind)) ≡ None
not_other plan reported others one round kind None so among is none given = ap (unless_first (first_of plan (string_bytes one.label))) (sym is) ∙ given
not_other plan reported others one round kind (Some (r, k)) so among is none given =
    let both = pair_is r k round kind (sym (other_given (first_of plan (string_bytes one.label)) (round_and_kind one) r k given) ∙ is) in
    let other : HasOtherKind plan reported r k = record { one = one; among = among; is = given } in
    let some : is_some (value_at others.kinds round) ≡ true = subst (λ (n : ℕ). is_some (value_at others.kinds n) ≡ true) both.0 (so.complete r k other) in
    absurd (let no : false ≡ true = sym (ap is_some none) ∙ some in cc)

by_others : (plan : Plan) (lines : List RecordedLine) (reported : List ClassifiedActor) (kinds : List (Option ℕ)) (others : OtherKinds) (round : ℕ) (label : List ℕ) (there : Option (Option ℕ)) → AreFirstKinds plan lines reported kinds → AreOtherKinds plan reported others
    → All (IsCorrectResult plan lines) reported → kind_of lines round ≡ Some label → value_at others.kinds round ≡ there → rounds.kind_of kinds round ≡ kind_or there (first_of plan label)
by_others plan lines reported kinds others round label (Some kind) are so all named is =
    let other = so.sound round kind is in
    counted_as kinds round kind (are.reports_of other.one round kind other.among (other_given (first_of plan (string_bytes other.one.label)) (round_and_kind other.one) round kind other.is))
by_others plan lines reported kinds others round label None are so all named is =
    elim (reported_or_not reported round) [
      | inr none ↦ counted_as kinds round (first_of plan label) (are.others round label named none)
      | inl of ↦
          let label_is = is_first plan lines of.one round label (All-contains (IsCorrectResult plan lines) reported of.one all of.among).label (round_of of.one round of.kind of.is) named in
          counted_as kinds round of.kind (are.reports_of of.one round of.kind of.among of.is)
          ∙ sym (subst (λ (l : List ℕ). first_of plan l ≡ of.kind) label_is (no_other (first_of plan (string_bytes of.one.label)) round of.kind (not_other plan reported others of.one round of.kind (other_kind_of plan of.one) so of.among of.is is refl)))
    ]

pub given_kinds : (plan : Plan) (lines : List RecordedLine) (reported : List ClassifiedActor) (kinds : List (Option ℕ)) (others : OtherKinds) → AreFirstKinds plan lines reported kinds → AreOtherKinds plan reported others → All (IsCorrectResult plan lines) reported
    → AreKindsBy plan others lines kinds
given_kinds plan lines reported kinds others are so all = record { each = λ round label named. by_others plan lines reported kinds others round label (value_at others.kinds round) are so all named refl }
