-- The kind that each round counts as, after the classified rounds.
use Rattle.std.proofs.Common.{◌≡◌, ◌≤◌, ◌<◌, ◌+◌, ℕ, Bool, true, false, cond, if◌then◌else◌, List, [], ◌∷◌, ◌++◌, length, set, All, Contains, Option, Some, None, refl, ap, sym, subst, ◌∙◌, inl, inr, string_bytes, slice_get, slice_set, count_by, append_assoc, arith}
use Rattle.std.proofs.Math.ListN.{length-set}
use Rattle.std.proofs.lemmas.Bool.{cases_eq, eq-eqb}
use Rattle.std.proofs.lemmas.List.Elements.{All-head, All-tail, All-weaker, Contains-push, Contains-push_cases, Contains-append_left}
use Rattle.std.proofs.lemmas.List.{append-nil}
use Rattle.std.proofs.lemmas.List.Sums.{sum_by-cons, sum_by-append}
use Rattle.recordings.specs.declared.recording_line.RecordedActor.{RecordedActor}
use Rattle.recordings.specs.declared.recording_line.RecordedActor.TheVariants.{Job, Round}
use Rattle.recordings.specs.RecordingLine.{RecordedLine, RoundBegins}
use Rattle.recordings.specs.LineParts.{is_same_actor, is_begin}
use Rattle.recordings.specs.Before.{begins}
use Rattle.recordings.specs.PathsOfLines.{KeepsRules}
use Rattle.job_bodies.specs.Plan.{Plan}
use Rattle.conformance.specs.declared.classified_actor.ClassifiedActor.{ClassifiedActor}
use Rattle.conformance.specs.Label.{HasLabel}
use Rattle.conformance.specs.ClassifiedActor.{IsCorrectResult, IsOnceEach, AreAllResultsOf, is_reported}
use Rattle.conformance.specs.FirstKinds.{has_kind, has_no_kind, round_and_kind, AreFirstKinds}
use Rattle.conformance.proofs.Among.{head_or_later, is_among_none}
use Rattle.conformance.proofs.ActorTables.{keeps_front}
use Rattle.conformance.proofs.KindsAfter.{HasFirstKinds, first_kinds, round_is, written, elsewhere}
use Rattle.conformance.proofs.ConformingActors.{begun_so}

-- ---- a write
abbrev with_kind : ℕ → Option ℕ → List (Option ℕ) → List (Option ℕ)
with_kind round kind kinds = slice_set kinds round kind

abbrev with_round : Option (ℕ × Option ℕ) → List (Option ℕ) → List (Option ℕ)
with_round None kinds = kinds
with_round (Some (round, kind)) kinds = with_kind round kind kinds

abbrev with_reported : ClassifiedActor → List (Option ℕ) → List (Option ℕ)
with_reported reported kinds = with_round (round_and_kind reported) kinds

-- The writes of all classified actors, in order.
abbrev with_all : List ClassifiedActor → List (Option ℕ) → List (Option ℕ)
with_all [] kinds = kinds
with_all (one ∷ reported) kinds = with_all reported (with_reported one kinds)

-- ---- rounds that have begun
-- The lines before one line, and those after it.
record Split (lines : List RecordedLine) (line : RecordedLine) : Type 0 where
  before : List RecordedLine
  after : List RecordedLine
  is : lines ≡ before ++ line ∷ after

split : (lines : List RecordedLine) (line : RecordedLine) → Contains lines line → Split lines line
split [] line among = absurd (is_among_none line among)
split (first ∷ lines) line among =
    elim (head_or_later first line lines among) [
      | inl is ↦ record { before = []; after = lines; is = ap (λ (l : RecordedLine). l ∷ lines) is }
      | inr more ↦ let rest = split lines line more in record { before = first ∷ rest.before; after = rest.after; is = ap (λ (ls : List RecordedLine). first ∷ ls) rest.is }
    ]

cons_count : {X : Type 0} (test : X → Bool) (x : X) (xs : List X) → count_by test (x ∷ xs) ≡ cond (test x) 1 0 + count_by test xs
cons_count {X} test x xs = sum_by-cons (λ (y : X). cond (test y) 1 0) x xs

excess_tracker : {X : Type 0} (test : X → Bool) (xs ys : List X) → count_by test (xs ++ ys) ≡ count_by test xs + count_by test ys
excess_tracker {X} test xs ys = sum_by-append (λ (y : X). cond (test y) 1 0) xs ys

one_there : {X : Type 0} (test : X → Bool) (x : X) (xs : List X) → test x ≡ true → 1 ≤ count_by test (x ∷ xs)
one_there test x xs passes =
    let number : Bool → ℕ = λ b. cond b 1 0 in
    let one : number (test x) ≡ 1 = ap number passes in
    omega (arith, one, cons_count test x xs)

begun_within : (lines : List RecordedLine) (round : ℕ) (label : List ℕ) → KeepsRules lines → Contains lines (RoundBegins round label) → round < begins lines
unfolding begins
begun_within lines round label keeps among =
    let line = RoundBegins round label in
    let parts = split lines line among in
    let front : lines ≡ (parts.before ++ line ∷ []) ++ parts.after = parts.is ∙ sym (append_assoc parts.before (line ∷ []) parts.after) in
    let is = round_is parts.before round label (keeps_front (parts.before ++ line ∷ []) parts.after lines front keeps) in
    let all : count_by is_begin lines ≡ count_by is_begin parts.before + count_by is_begin (line ∷ parts.after) = ap (count_by is_begin) parts.is ∙ excess_tracker is_begin parts.before (line ∷ parts.after) in
    let some = one_there is_begin line parts.after refl in
    let number : round ≡ count_by is_begin parts.before = is in
    omega (arith, all, some, number)

-- ---- one classified round
abbrev pub pair_some : ℕ → Option ℕ → Option (ℕ × Option ℕ)
pair_some a b = Some (a, b)

pub pair_is : (a : ℕ) (b : Option ℕ) (c : ℕ) (d : Option ℕ) → pair_some a b ≡ pair_some c d → (a ≡ c) × (b ≡ d)
pair_is a b c d is =
    let one_pair : ℕ × Option ℕ = (a, b) in
    let other_pair : ℕ × Option ℕ = (c, d) in
    let pair : one_pair ≡ other_pair = cc in
    (ap (λ (p : ℕ × Option ℕ). p.0) pair, ap (λ (p : ℕ × Option ℕ). p.1) pair)

by_members : (members : List ℕ) (actor : RecordedActor) (round : ℕ) (kind : Option ℕ) → has_kind members actor ≡ Some (round, kind) → actor ≡ Round round
by_members [] actor round kind is = absurd (grind (arith, is))
by_members (k ∷ more) (Job job) round kind is = absurd (grind (arith, is))
by_members (k ∷ more) (Round r) round kind is = ap Round (pair_is r (Some k) round kind is).0

without_kind : (actor : RecordedActor) (round : ℕ) (kind : Option ℕ) → has_no_kind actor ≡ Some (round, kind) → actor ≡ Round round
without_kind (Job job) round kind is = absurd (grind (arith, is))
without_kind (Round r) round kind is = ap Round (pair_is r None round kind is).0

by_decision : (is_decided : Bool) (members : List ℕ) (actor : RecordedActor) (round : ℕ) (kind : Option ℕ) → (if is_decided then has_kind members actor else has_no_kind actor) ≡ Some (round, kind) → actor ≡ Round round
by_decision true members actor round kind is = by_members members actor round kind is
by_decision false members actor round kind is = without_kind actor round kind is

pub round_of : (one : ClassifiedActor) (round : ℕ) (kind : Option ℕ) → round_and_kind one ≡ Some (round, kind) → one.actor ≡ Round round
round_of one round kind is = by_decision one.family.is_decided one.family.members.items one.actor round kind is

-- The classified round has begun.
record HasBegun (lines : List RecordedLine) (one : ClassifiedActor) : Type 0 where
  begun : (round : ℕ) (kind : Option ℕ) → round_and_kind one ≡ Some (round, kind) → round < begins lines

has_begun : (plan : Plan) (lines : List RecordedLine) (one : ClassifiedActor) → KeepsRules lines → IsCorrectResult plan lines one → HasBegun lines one
has_begun plan lines one keeps reported = record {
  begun = λ round kind is.
      let named : HasLabel lines (Round round) (string_bytes one.label) (string_bytes one.pool) = subst (λ (a : RecordedActor). HasLabel lines a (string_bytes one.label) (string_bytes one.pool)) (round_of one round kind is) reported.label in
      begun_within lines round (string_bytes one.label) keeps (begun_so lines round (string_bytes one.label) named.0);
}

-- No other classified actor is the same round.
abbrev pub IsNew : List ClassifiedActor → ClassifiedActor → Type 0
IsNew reported one = (other : ClassifiedActor) (round : ℕ) (kind more : Option ℕ) → Contains reported other → round_and_kind other ≡ Some (round, kind) → round_and_kind one ≡ Some (round, more) → ⊥

reported_none : (plan : Plan) (lines : List RecordedLine) (reported : List ClassifiedActor) (kinds : List (Option ℕ)) (one : ClassifiedActor) → AreFirstKinds plan lines reported kinds → round_and_kind one ≡ None → AreFirstKinds plan lines (reported ++ one ∷ []) kinds
reported_none plan lines reported kinds one are none = record {
  many = are.many;
  reports_of = λ other round kind among is. elim (Contains-push_cases reported one other among) [
    | inl earlier ↦ are.reports_of other round kind earlier is
    | inr same ↦ absurd (let no_round : None ≡ Some (round, kind) = sym none ∙ (ap round_and_kind same ∙ is) in cc)
  ];
  others = λ round label named without. are.others round label named (λ other kind among. without other kind (Contains-append_left reported (one ∷ []) other among));
}

reported_some : (plan : Plan) (lines : List RecordedLine) (reported : List ClassifiedActor) (kinds : List (Option ℕ)) (one : ClassifiedActor) (round : ℕ) (kind : Option ℕ) → AreFirstKinds plan lines reported kinds → IsNew reported one → round < begins lines
    → round_and_kind one ≡ Some (round, kind) → AreFirstKinds plan lines (reported ++ one ∷ []) (set kinds round kind)
reported_some plan lines reported kinds one round kind are new begun is =
    let below : round < length kinds = omega (arith, begun, are.many) in
    record {
      many = length-set kinds round kind ∙ are.many;
      reports_of = λ other r k among reported_is. elim (Contains-push_cases reported one other among) [
        | inl earlier ↦ elim (cases_eq r round) [
          | inl same ↦ absurd (new other round k kind earlier (subst (λ (n : ℕ). round_and_kind other ≡ Some (n, k)) same reported_is) is)
          | inr other_round ↦ elsewhere kinds round r kind other_round ∙ are.reports_of other r k earlier reported_is
        ]
        | inr same ↦
            let both = pair_is round kind r k (sym is ∙ (ap round_and_kind same ∙ reported_is)) in
            subst (λ (n : ℕ). slice_get (set kinds round kind) n ≡ Some k) both.0 (subst (λ (x : Option ℕ). slice_get (set kinds round kind) round ≡ Some x) both.1 (written kinds round kind below))
      ];
      others = λ r label named without. elim (cases_eq r round) [
        | inl same ↦ absurd (without one kind (Contains-push reported one) (subst (λ (n : ℕ). round_and_kind one ≡ Some (n, kind)) (sym same) is))
        | inr other_round ↦ elsewhere kinds round r kind other_round ∙ are.others r label named (λ other k among. without other k (Contains-append_left reported (one ∷ []) other among))
      ];
    }

reported_by : (plan : Plan) (lines : List RecordedLine) (reported : List ClassifiedActor) (kinds : List (Option ℕ)) (one : ClassifiedActor) (given : Option (ℕ × Option ℕ)) → AreFirstKinds plan lines reported kinds → IsNew reported one → HasBegun lines one → round_and_kind one ≡ given
    → AreFirstKinds plan lines (reported ++ one ∷ []) (with_round given kinds)
reported_by plan lines reported kinds one None are new begun is = reported_none plan lines reported kinds one are is
reported_by plan lines reported kinds one (Some (round, kind)) are new begun is = reported_some plan lines reported kinds one round kind are new (begun.begun round kind is) is

-- ---- all classified rounds
reported_itself : (actor : RecordedActor) (one : ClassifiedActor) → one.actor ≡ actor → is_reported actor one ≡ true
reported_itself (Job job) one is = ap (λ (a : RecordedActor). is_same_actor a (Job job)) is ∙ eq-eqb job job refl
reported_itself (Round round) one is = ap (λ (a : RecordedActor). is_same_actor a (Round round)) is ∙ eq-eqb round round refl

some_there : {X : Type 0} (test : X → Bool) (xs : List X) (x : X) → Contains xs x → test x ≡ true → 1 ≤ count_by test xs
some_there test [] x among passes = absurd (is_among_none x among)
some_there test (y ∷ xs) x among passes =
    elim (head_or_later y x xs among) [
      | inl is ↦ one_there test y xs (ap test is ∙ passes)
      | inr more ↦ omega (arith, some_there test xs x more passes, cons_count test y xs)
    ]

is_new : (reported rest : List ClassifiedActor) (one : ClassifiedActor) → IsOnceEach (reported ++ one ∷ rest) → IsNew reported one
is_new reported rest one once = λ other round kind more among other_is one_is.
    let test = is_reported (Round round) in
    let first = some_there test reported other among (reported_itself (Round round) other (round_of other round kind other_is)) in
    let second = one_there test one rest (reported_itself (Round round) one (round_of one round more one_is)) in
    let both : count_by test (reported ++ one ∷ rest) ≡ count_by test reported + count_by test (one ∷ rest) = excess_tracker test reported (one ∷ rest) in
    let few : count_by test (reported ++ one ∷ rest) ≤ 1 = once (Round round) in
    omega (arith, first, second, both, few)

reported_all : (plan : Plan) (lines : List RecordedLine) (reported more : List ClassifiedActor) (kinds : List (Option ℕ)) → AreFirstKinds plan lines reported kinds → All (HasBegun lines) more → IsOnceEach (reported ++ more) → AreFirstKinds plan lines (reported ++ more) (with_all more kinds)
reported_all plan lines reported [] kinds are begun once = subst (λ (all : List ClassifiedActor). AreFirstKinds plan lines all kinds) (sym (append-nil reported)) are
reported_all plan lines reported (one ∷ more) kinds are begun once =
    let same : (reported ++ one ∷ []) ++ more ≡ reported ++ one ∷ more = append_assoc reported (one ∷ []) more in
    let next = reported_by plan lines reported kinds one (round_and_kind one) are (is_new reported more one once) (All-head (HasBegun lines) one more begun) refl in
    let all = reported_all plan lines (reported ++ one ∷ []) more (with_reported one kinds) next (All-tail (HasBegun lines) one more begun) (subst IsOnceEach (sym same) once) in
    subst (λ (xs : List ClassifiedActor). AreFirstKinds plan lines xs (with_all more (with_reported one kinds))) same all

-- The kind that each round counts as, once all actors are classified.
pub all_first_kinds : (plan : Plan) (lines : List RecordedLine) (reported : List ClassifiedActor) → KeepsRules lines → AreAllResultsOf plan lines reported → HasFirstKinds plan lines reported
all_first_kinds plan lines reported keeps all =
    let first = first_kinds plan lines keeps in
    let begun = All-weaker (IsCorrectResult plan lines) (HasBegun lines) (λ one so. has_begun plan lines one keeps so) reported all.reported in
    record { kinds = with_all reported first.kinds; so = reported_all plan lines [] reported first.kinds first.so begun all.once }
