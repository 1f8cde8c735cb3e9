-- The results for several actors in order, and the actors that they concern.
use Rattle.std.proofs.Common.{◌≡◌, ◌≤◌, ◌⊎◌, ◌+◌, ℕ, Bool, true, false, cond, if◌then◌else◌, List, [], ◌∷◌, ◌++◌, is_some, Some, None, count_by, All, refl, ap, sym, subst, ◌∙◌, inl, inr, append-nil, append_assoc, arith}
use Rattle.std.specs.List.{list_any}
use Rattle.std.proofs.lemmas.List.Elements.{All-nil, All-cons, All-append, All-weaker}
use Rattle.std.proofs.lemmas.List.Folds.{list_any_none}
use Rattle.std.proofs.lemmas.List.Sums.{sum_by-cons, sum_by-append}
use Rattle.recordings.specs.declared.recording_line.RecordedActor.{RecordedActor}
use Rattle.recordings.specs.LineParts.{is_same_actor}
use Rattle.recordings.proofs.Refusals.{same_actor}
use Rattle.recordings.proofs.Tests.{or_first, or_second}
use Rattle.conformance.specs.declared.actor_table.ActorTable.{ActorTable}
use Rattle.conformance.specs.declared.actor_table.UnsettledActor.{UnsettledActor}
use Rattle.conformance.specs.declared.classified_actor.ClassifiedActor.{ClassifiedActor}
use Rattle.conformance.specs.ActorTables.{in_table}
use Rattle.conformance.specs.ClassifiedActor.{is_reported}
use Rattle.conformance.specs.ClassificationResults.{AddsResults}
use Rattle.conformance.proofs.Words.{by_bool, apart, some_at, some_of, or_either, or_left, or_right, if_true}
use Rattle.conformance.proofs.AppliedLine.{same_as_self}
use Rattle.conformance.proofs.OtherActors.{still, stays_there}

-- ---- lists
pub any_append_left : {X : Type 0} (p : X → Bool) (xs ys : List X) → list_any p xs ≡ true → list_any p (xs ++ ys) ≡ true
any_append_left p [] ys h = apart false h refl
any_append_left p (x ∷ xs) ys h = or_either (p x) (list_any p xs) h (λ here. or_left _ _ here) (λ rest. or_right _ _ (any_append_left p xs ys rest))

pub any_append_right : {X : Type 0} (p : X → Bool) (xs ys : List X) → list_any p ys ≡ true → list_any p (xs ++ ys) ≡ true
any_append_right p [] ys h = h
any_append_right p (x ∷ xs) ys h = or_right _ _ (any_append_right p xs ys h)

abbrev as_count : Bool → ℕ
as_count b = cond b 1 0

none_counted : {X : Type 0} (p : X → Bool) (xs : List X) → list_any p xs ≡ false → count_by p xs ≡ 0
none_counted p [] h = refl
none_counted p (x ∷ xs) h =
    let all : count_by p (x ∷ xs) ≡ as_count (p x) + count_by p xs = sum_by-cons (λ y. cond (p y) 1 0) x xs in
    let here : as_count (p x) ≡ 0 = ap as_count (or_first (p x) (list_any p xs) h) in
    let rest : count_by p xs ≡ 0 = none_counted p xs (or_second (p x) (list_any p xs) h) in
    omega (arith, all, here, rest)

pub none_most : {X : Type 0} (p : X → Bool) → count_by p [] ≤ 1
none_most p = let none : count_by p [] ≡ 0 = refl in omega (arith, none)

at_most_one : (b : Bool) → as_count b ≤ 1
at_most_one true = omega arith
at_most_one false = omega arith

one_counted : {X : Type 0} (p : X → Bool) (x : X) → count_by p (x ∷ []) ≤ 1
one_counted p x =
    let all : count_by p (x ∷ []) ≡ as_count (p x) + count_by p [] = sum_by-cons (λ y. cond (p y) 1 0) x [] in
    let none : count_by p [] ≡ 0 = refl in
    let most = at_most_one (p x) in
    omega (arith, all, none, most)

pub once_left : {X : Type 0} (p : X → Bool) (xs ys : List X) → count_by p xs ≤ 1 → list_any p ys ≡ false → count_by p (xs ++ ys) ≤ 1
once_left p xs ys h none =
    let all : count_by p (xs ++ ys) ≡ count_by p xs + count_by p ys = sum_by-append (λ y. cond (p y) 1 0) xs ys in
    let rest = none_counted p ys none in
    omega (arith, all, rest, h)

pub once_right : {X : Type 0} (p : X → Bool) (xs ys : List X) → list_any p xs ≡ false → count_by p ys ≤ 1 → count_by p (xs ++ ys) ≤ 1
once_right p xs ys none h =
    let all : count_by p (xs ++ ys) ≡ count_by p xs + count_by p ys = sum_by-append (λ y. cond (p y) 1 0) xs ys in
    let rest = none_counted p xs none in
    omega (arith, all, rest, h)

-- ---- no actor
pub reports_same : (IsSo : ClassifiedActor → Type 0) (old new : ActorTable) → ((one : RecordedActor) → is_some (in_table new one) ≡ is_some (in_table old one)) → (reported : List ClassifiedActor) → AddsResults IsSo old new reported reported
reports_same IsSo old new same reported = record {
  more = [];
  after = sym (append-nil reported);
  reported = All-nil IsSo;
  kept = All-nil (λ (t : ClassifiedActor). is_some (in_table old t.actor) ≡ true);
  gone = All-nil (λ (t : ClassifiedActor). is_some (in_table new t.actor) ≡ false);
  once = λ who. none_most (is_reported who);
  each = λ who h. inl (same who ∙ h);
  fewer = λ who h. sym (same who) ∙ h;
}

pub reports_none : (IsSo : ClassifiedActor → Type 0) (actors : ActorTable) (reported : List ClassifiedActor) → AddsResults IsSo actors actors reported reported
reports_none IsSo actors reported = reports_same IsSo actors actors (λ one. refl) reported

-- ---- one removed actor
pub reports_one : (IsSo : ClassifiedActor → Type 0) (old new : ActorTable) (actor : RecordedActor) (kept : UnsettledActor) → in_table old actor ≡ Some kept → ((one : RecordedActor) → in_table new one ≡ (if is_same_actor actor one then None else in_table old one))
    → (one : ClassifiedActor) → one.actor ≡ actor → IsSo one → (before later : List ClassifiedActor) → later ≡ before ++ one ∷ [] → AddsResults IsSo old new before later
reports_one IsSo old new actor kept there goes one is so before later after = record {
  more = one ∷ [];
  after = after;
  reported = All-cons IsSo one [] so (All-nil IsSo);
  kept = All-cons (λ (t : ClassifiedActor). is_some (in_table old t.actor) ≡ true) one [] (subst (λ (a : RecordedActor). is_some (in_table old a) ≡ true) (sym is) (some_of (in_table old actor) kept there)) (All-nil (λ (t : ClassifiedActor). is_some (in_table old t.actor) ≡ true));
  gone = All-cons (λ (t : ClassifiedActor). is_some (in_table new t.actor) ≡ false) one [] (subst (λ (a : RecordedActor). is_some (in_table new a) ≡ false) (sym is) (ap is_some (goes actor ∙ if_true (is_same_actor actor actor) None (in_table old actor) (same_as_self actor)))) (All-nil (λ (t : ClassifiedActor). is_some (in_table new t.actor) ≡ false));
  once = λ who. one_counted (is_reported who) one;
  each = λ who h. by_bool (is_same_actor actor who)
      (λ same. inr (or_left (is_same_actor one.actor who) false (ap (λ (a : RecordedActor). is_same_actor a who) is ∙ same)))
      (λ other. inl (stays_there old new actor goes who other h));
  fewer = λ who h. some_at (in_table new who) h (λ its is_there. some_of (in_table old who) its (still old new actor goes who its is_there).1);
}

-- ---- several actors
each_last : (IsSo : ClassifiedActor → Type 0) (b c : ActorTable) (y z more : List ClassifiedActor) (q : AddsResults IsSo b c y z) (who : RecordedActor)
    → (is_some (in_table c who) ≡ true) ⊎ (list_any (is_reported who) q.more ≡ true) → (is_some (in_table c who) ≡ true) ⊎ (list_any (is_reported who) (more ++ q.more) ≡ true)
each_last IsSo b c y z more q who (inl h) = inl h
each_last IsSo b c y z more q who (inr h) = inr (any_append_right (is_reported who) more q.more h)

each_then : (IsSo : ClassifiedActor → Type 0) (a b c : ActorTable) (x y z : List ClassifiedActor) (p : AddsResults IsSo a b x y) (q : AddsResults IsSo b c y z) (who : RecordedActor)
    → (is_some (in_table b who) ≡ true) ⊎ (list_any (is_reported who) p.more ≡ true) → (is_some (in_table c who) ≡ true) ⊎ (list_any (is_reported who) (p.more ++ q.more) ≡ true)
each_then IsSo a b c x y z p q who (inl h) = each_last IsSo b c y z p.more q who (q.each who h)
each_then IsSo a b c x y z p q who (inr h) = inr (any_append_left (is_reported who) p.more q.more h)

-- Two actors that differ in a property are different.
pub another_reported : (P : RecordedActor → Bool) (who : RecordedActor) (value : Bool) → P who ≡ value → (t : ClassifiedActor) → ((value ≡ true) × (P t.actor ≡ false)) ⊎ ((value ≡ false) × (P t.actor ≡ true)) → is_reported who t ≡ false
another_reported P who value is t (inl h) = by_bool (is_reported who t)
    (λ same. apart (P who) (is ∙ h.0) (subst (λ (a : RecordedActor). P a ≡ false) (same_actor t.actor who same) h.1)) (λ other. other)
another_reported P who value is t (inr h) = by_bool (is_reported who t)
    (λ same. apart (P who) (subst (λ (a : RecordedActor). P a ≡ true) (same_actor t.actor who same) h.1) (is ∙ h.0)) (λ other. other)

pub none_of_gone : (table : ActorTable) (who : RecordedActor) (more : List ClassifiedActor) → is_some (in_table table who) ≡ true → All (λ (t : ClassifiedActor). is_some (in_table table t.actor) ≡ false) more → list_any (is_reported who) more ≡ false
none_of_gone table who more there gone = list_any_none (is_reported who) more
    (All-weaker (λ (t : ClassifiedActor). is_some (in_table table t.actor) ≡ false) (λ (t : ClassifiedActor). is_reported who t ≡ false) (λ t h. another_reported (λ a. is_some (in_table table a)) who true there t (inl (refl, h))) more gone)

pub none_of_kept : (table : ActorTable) (who : RecordedActor) (more : List ClassifiedActor) → is_some (in_table table who) ≡ false → All (λ (t : ClassifiedActor). is_some (in_table table t.actor) ≡ true) more → list_any (is_reported who) more ≡ false
none_of_kept table who more absent kept = list_any_none (is_reported who) more
    (All-weaker (λ (t : ClassifiedActor). is_some (in_table table t.actor) ≡ true) (λ (t : ClassifiedActor). is_reported who t ≡ false) (λ t h. another_reported (λ a. is_some (in_table table a)) who false absent t (inr (refl, h))) more kept)

still_gone : (b c : ActorTable) → ((actor : RecordedActor) → is_some (in_table c actor) ≡ true → is_some (in_table b actor) ≡ true) → (actor : RecordedActor) → is_some (in_table b actor) ≡ false → is_some (in_table c actor) ≡ false
still_gone b c fewer actor gone = by_bool (is_some (in_table c actor)) (λ there. apart (is_some (in_table b actor)) (fewer actor there) gone) (λ absent. absent)

pub reports_then : (IsSo : ClassifiedActor → Type 0) (a b c : ActorTable) (x y z : List ClassifiedActor) → AddsResults IsSo a b x y → AddsResults IsSo b c y z → AddsResults IsSo a c x z
reports_then IsSo a b c x y z p q = record {
  more = p.more ++ q.more;
  after = q.after ∙ (ap (λ (l : List ClassifiedActor). l ++ q.more) p.after ∙ append_assoc x p.more q.more);
  reported = All-append IsSo p.more q.more p.reported q.reported;
  kept = All-append (λ (t : ClassifiedActor). is_some (in_table a t.actor) ≡ true) p.more q.more p.kept
      (All-weaker (λ (t : ClassifiedActor). is_some (in_table b t.actor) ≡ true) (λ (t : ClassifiedActor). is_some (in_table a t.actor) ≡ true) (λ t h. p.fewer t.actor h) q.more q.kept);
  gone = All-append (λ (t : ClassifiedActor). is_some (in_table c t.actor) ≡ false) p.more q.more
      (All-weaker (λ (t : ClassifiedActor). is_some (in_table b t.actor) ≡ false) (λ (t : ClassifiedActor). is_some (in_table c t.actor) ≡ false) (λ t h. still_gone b c q.fewer t.actor h) p.more p.gone) q.gone;
  once = λ who. by_bool (is_some (in_table b who))
      (λ there. once_right (is_reported who) p.more q.more (none_of_gone b who p.more there p.gone) (q.once who))
      (λ absent. once_left (is_reported who) p.more q.more (p.once who) (none_of_kept b who q.more absent q.kept));
  each = λ who h. each_then IsSo a b c x y z p q who (p.each who h);
  fewer = λ who h. p.fewer who (q.fewer who h);
}
