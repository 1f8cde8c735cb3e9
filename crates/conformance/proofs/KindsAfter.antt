-- The kind that each round counts as after one more line, if no actor is classified.
use Rattle.std.proofs.Common.{◌≡◌, ◌<◌, ◌+◌, ℕ, zero, suc, Bool, true, false, cond, ◌&&◌, not, ◌==◌, List, [], ◌∷◌, ◌++◌, length, set, Option, Some, None, refl, ap, sym, subst, ◌∙◌, inl, inr, slice_get, length-append, arith}
use Rattle.std.specs.Prelude.{◌⊎◌}
use Rattle.std.specs.List.{filter_map, cons_option}
use Rattle.std.proofs.lemmas.Bool.{eqb-true}
use Rattle.std.proofs.lemmas.List.Elements.{filter_map-append}
use Rattle.recordings.specs.RecordingLine.{RecordedLine, RoundBegins}
use Rattle.recordings.specs.declared.rule.LineRule.{LineRule}
use Rattle.recordings.specs.declared.rule.LineRule.TheVariants as rule
use Rattle.recordings.specs.LineParts.{is_begin}
use Rattle.recordings.specs.Before.{begins}
use Rattle.recordings.specs.Rules.{keeps_frame, keeps_pools, keeps_numbers, has_next_number}
use Rattle.recordings.specs.PathsOfLines.{KeepsRules}
use Rattle.recordings.proofs.ByLast.{by_last, keeps_before}
use Rattle.job_bodies.specs.Plan.{Plan}
use Rattle.conformance.specs.Family.{client_family}
use Rattle.conformance.specs.declared.classified_actor.ClassifiedActor.{ClassifiedActor}
use Rattle.conformance.specs.Label.{kind_of, kind_in}
use Rattle.conformance.specs.FirstKinds.{AreFirstKinds}
use Rattle.conformance.proofs.ListPlaces.{there_before, there_last}
use Rattle.conformance.proofs.Times.{count_push}

-- ---- lists
pub written : {X : Type 0} (xs : List X) (i : ℕ) (x : X) → i < length xs → slice_get (set xs i x) i ≡ Some x
written [] i x below = absurd (omega arith)
written (y ∷ xs) zero x below = refl
written (y ∷ xs) (suc i) x below = written xs i x (omega arith)

pub elsewhere : {X : Type 0} (xs : List X) (i k : ℕ) (x : X) → (k ≡ i → ⊥) → slice_get (set xs i x) k ≡ slice_get xs k
elsewhere [] i k x other = refl
elsewhere (y ∷ xs) zero zero x other = absurd (other refl)
elsewhere (y ∷ xs) zero (suc k) x other = refl
elsewhere (y ∷ xs) (suc i) zero x other = refl
elsewhere (y ∷ xs) (suc i) (suc k) x other = elsewhere xs i k x (λ same. other (ap suc same))

-- ---- a line
-- A line that breaks no rule satisfies the first rule, and breaks none of the others.
passes : (holds : Bool) (one : LineRule) (rest : Option LineRule) → (cond (not holds) (Some one) rest) ≡ None → (holds ≡ true) × (rest ≡ None)
passes true one rest h = (refl, h)
passes false one rest h = absurd (grind (arith, h))

both_true : (a b : Bool) → (a && b) ≡ true → (a ≡ true) × (b ≡ true)
both_true true b h = (refl, h)
both_true false b h = absurd (grind (arith, h))

next_number : (before : List RecordedLine) (line : RecordedLine) → KeepsRules (before ++ line ∷ []) → has_next_number before line ≡ true
next_number before line keeps =
    let unbroken = keeps.unbroken before line [] refl in
    let p1 = passes (keeps_frame before line) rule.Frame _ unbroken in
    let p2 = passes (keeps_pools before line) rule.Pools _ p1.1 in
    let p3 = passes (keeps_numbers before line) rule.Numbers _ p2.1 in
    (both_true _ _ (both_true _ _ p3.0).0).0

pub round_is : (before : List RecordedLine) (round : ℕ) (label : List ℕ) → KeepsRules (before ++ RoundBegins round label ∷ []) → round ≡ begins before
round_is before round label keeps = eqb-true round (begins before) (next_number before (RoundBegins round label) keeps)

begins_push : (before : List RecordedLine) (line : RecordedLine) → begins (before ++ line ∷ []) ≡ begins before + cond (is_begin line) 1 0
unfolding begins
begins_push before line = count_push is_begin before line

-- The label of a round, with one more line.
kinds_push : (before : List RecordedLine) (line : RecordedLine) (round : ℕ) → filter_map (kind_in round) (before ++ line ∷ []) ≡ filter_map (kind_in round) before ++ cons_option (kind_in round line) []
kinds_push before line round = filter_map-append (kind_in round) before (line ∷ [])

head_of : (xs : List (List ℕ)) (more : Option (List ℕ)) (label : List ℕ) → slice_get (xs ++ cons_option more []) 0 ≡ Some label → (slice_get xs 0 ≡ Some label) ⊎ (more ≡ Some label)
head_of [] None label h = absurd (grind (arith, h))
head_of [] (Some one) label h = inr h
head_of (x ∷ xs) more label h = inl h

kind_cases : (before : List RecordedLine) (line : RecordedLine) (round : ℕ) (label : List ℕ) → kind_of (before ++ line ∷ []) round ≡ Some label → (kind_of before round ≡ Some label) ⊎ (kind_in round line ≡ Some label)
unfolding kind_of
kind_cases before line round label h = head_of (filter_map (kind_in round) before) (kind_in round line) label (sym (ap (λ (xs : List (List ℕ)). slice_get xs 0) (kinds_push before line round)) ∙ h)

same_round : (b : Bool) (one round : ℕ) (k label : List ℕ) → (one == round) ≡ b → (cond b (Some k) None) ≡ Some label → (one ≡ round) × (k ≡ label)
same_round true one round k label same is = (eqb-true one round same, (let x : k ≡ label = cc in x))
same_round false one round k label same is = absurd (grind (arith, is))

-- ---- after a begin
pub after_begin_line : (plan : Plan) (before : List RecordedLine) (reported : List ClassifiedActor) (kinds : List (Option ℕ)) (round : ℕ) (label : List ℕ) → KeepsRules (before ++ RoundBegins round label ∷ []) → AreFirstKinds plan before reported kinds
    → AreFirstKinds plan (before ++ RoundBegins round label ∷ []) reported (kinds ++ slice_get (client_family plan label) 0 ∷ [])
after_begin_line plan before reported kinds round label keeps are =
    let line = RoundBegins round label in
    let first = slice_get (client_family plan label) 0 in
    let here : round ≡ length kinds = round_is before round label keeps ∙ sym are.many in
    record {
      many = length-append kinds (first ∷ []) ∙ (ap (λ (n : ℕ). n + 1) are.many ∙ sym (begins_push before line));
      reports_of = λ one r kind among is. there_before kinds (first ∷ []) r kind (are.reports_of one r kind among is);
      others = λ r name named none. elim (kind_cases before line r name named) [
        | inl earlier ↦ there_before kinds (first ∷ []) r _ (are.others r name earlier none)
        | inr now ↦
            let same = same_round (round == r) round r label name refl now in
            subst (λ (n : ℕ). slice_get (kinds ++ first ∷ []) n ≡ Some (slice_get (client_family plan name) 0)) (sym here ∙ same.0)
            (subst (λ (x : List ℕ). slice_get (kinds ++ first ∷ []) (length kinds) ≡ Some (slice_get (client_family plan x) 0)) same.1 (there_last kinds first))
      ];
    }

-- ---- after another line
no_kind : (line : RecordedLine) (round : ℕ) (label : List ℕ) → is_begin line ≡ false → kind_in round line ≡ Some label → ⊥
no_kind (RoundBegins one k) round label none is = grind (arith, none)
no_kind _ round label none is = grind (arith, is)

pub after_other : (plan : Plan) (before : List RecordedLine) (line : RecordedLine) (reported : List ClassifiedActor) (kinds : List (Option ℕ)) → is_begin line ≡ false → AreFirstKinds plan before reported kinds → AreFirstKinds plan (before ++ line ∷ []) reported kinds
after_other plan before line reported kinds other are = record {
  many = are.many ∙ sym (begins_push before line ∙ (ap (λ (b : Bool). begins before + cond b 1 0) other ∙ (let x : begins before + 0 ≡ begins before = omega arith in x)));
  reports_of = are.reports_of;
  others = λ r name named none. elim (kind_cases before line r name named) [ inl earlier ↦ are.others r name earlier none | inr now ↦ absurd (no_kind line r name other now) ];
}

pub none_yet : (plan : Plan) → AreFirstKinds plan [] [] []
unfolding begins kind_of
none_yet plan = record {
  many = refl;
  reports_of = λ one r kind among is. absurd (let below : among.0 < 0 = among.1 in omega (arith, below));
  others = λ r name named none. absurd (grind (arith, named));
}

-- ---- all lines
-- If no actor is classified, each round counts as the first kind of its label.
pub record HasFirstKinds (plan : Plan) (lines : List RecordedLine) (reported : List ClassifiedActor) : Type 0 where
  pub kinds : List (Option ℕ)
  pub so : AreFirstKinds plan lines reported kinds

after : (plan : Plan) (before : List RecordedLine) (line : RecordedLine) → KeepsRules (before ++ line ∷ []) → HasFirstKinds plan before [] → HasFirstKinds plan (before ++ line ∷ []) []
after plan before (RoundBegins round label) keeps has = record { kinds = has.kinds ++ slice_get (client_family plan label) 0 ∷ []; so = after_begin_line plan before [] has.kinds round label keeps has.so }
after plan before line keeps has = record { kinds = has.kinds; so = after_other plan before line [] has.kinds refl has.so }

pub first_kinds : (plan : Plan) (lines : List RecordedLine) → KeepsRules lines → HasFirstKinds plan lines []
first_kinds plan =
    by_last (λ lines. KeepsRules lines → HasFirstKinds plan lines []) (λ keeps. record { kinds = []; so = none_yet plan })
    (λ before line has keeps. after plan before line keeps (has (keeps_before before line keeps)))
