-- The actor with the smallest number of each label, after one more actor.
use Rattle.std.proofs.Common.{◌≡◌, ◌≤◌, ◌<◌, ℕ, zero, suc, Bool, true, false, ◌&&◌, List, [], ◌∷◌, ◌++◌, length, get_or, set, All, Contains, Some, refl, ap, sym, subst, ◌∙◌, string_bytes, slice_get, arith}
use Rattle.std.specs.Prelude.{Any}
use Rattle.std.specs.List.{list_any}
use Rattle.std.proofs.lemmas.Slice.Eq.{bytes_eq-Decides}
use Rattle.std.proofs.lemmas.List.Elements.{All-push, All-weaker, All-set, Contains-push, Contains-append_left}
use Rattle.std.proofs.lemmas.List.Quantifiers.{any-set, Any-push}
use Rattle.recordings.specs.declared.recording_line.RecordedActor.{RecordedActor}
use Rattle.recordings.specs.declared.recording_line.RecordedActor.TheVariants.{Job, Round}
use Rattle.conformance.specs.declared.classified_actor.ClassifiedActor.{ClassifiedActor}
use Rattle.conformance.specs.FirstActors.{is_same_sort, number_of, is_same_label, Represents, AreFirstActorsOf}
use Rattle.conformance.proofs.Among.{passing, passed}
use Rattle.conformance.proofs.ListPlaces.{within}
use Rattle.conformance.proofs.Times.{once_more, count_write}

-- ---- labels
both_true : (a b : Bool) → (a && b) ≡ true → (a ≡ true) × (b ≡ true)
both_true true b h = (refl, h)
both_true false b h = absurd (grind (arith, h))

and_true : (a b : Bool) → a ≡ true → b ≡ true → (a && b) ≡ true
and_true true b h k = k
and_true false b h k = h

record AreSame (one other : ClassifiedActor) : Type 0 where
  sort : is_same_sort one.actor other.actor ≡ true
  label : string_bytes one.label ≡ string_bytes other.label
  pool : string_bytes one.pool ≡ string_bytes other.pool

parts : (one other : ClassifiedActor) → is_same_label one other ≡ true → AreSame one other
parts one other h =
    let front = both_true _ _ h in
    let first = both_true _ _ front.0 in
    record { sort = first.0; label = (bytes_eq-Decides _ _).0 first.1; pool = (bytes_eq-Decides _ _).0 front.1 }

whole : (one other : ClassifiedActor) → AreSame one other → is_same_label one other ≡ true
whole one other same = and_true _ _ (and_true _ _ same.sort ((bytes_eq-Decides _ _).1 same.label)) ((bytes_eq-Decides _ _).1 same.pool)

sort_itself : (actor : RecordedActor) → is_same_sort actor actor ≡ true
sort_itself (Job job) = refl
sort_itself (Round round) = refl

-- If both are of the same sort as the first, they are of the same sort.
sort_both : (first second third : RecordedActor) → is_same_sort first second ≡ true → is_same_sort first third ≡ true → is_same_sort second third ≡ true
sort_both (Job a) (Job b) (Job c) h k = refl
sort_both (Job a) (Job b) (Round c) h k = k
sort_both (Job a) (Round b) third h k = absurd (grind (arith, h))
sort_both (Round a) (Round b) (Round c) h k = refl
sort_both (Round a) (Round b) (Job c) h k = k
sort_both (Round a) (Job b) third h k = absurd (grind (arith, h))

same_itself : (one : ClassifiedActor) → is_same_label one one ≡ true
same_itself one = whole one one (record { sort = sort_itself one.actor; label = refl; pool = refl })

-- If both have the same label as the first, they have the same label.
same_both : (first second third : ClassifiedActor) → is_same_label first second ≡ true → is_same_label first third ≡ true → is_same_label second third ≡ true
same_both first second third h k =
    let a = parts first second h in
    let b = parts first third k in
    whole second third (record { sort = sort_both first.actor second.actor third.actor a.sort b.sort; label = sym a.label ∙ b.label; pool = sym a.pool ∙ b.pool })

turned : (one other : ClassifiedActor) → is_same_label one other ≡ true → is_same_label other one ≡ true
turned one other h = same_both one other one h (same_itself one)

same_answer : (a b : Bool) → (a ≡ true → b ≡ true) → (b ≡ true → a ≡ true) → a ≡ b
same_answer true b there back = sym (there refl)
same_answer false true there back = back refl
same_answer false false there back = refl

-- Two actors of the same label compare equally with any third one.
alike : (third one first : ClassifiedActor) → is_same_label first one ≡ true → is_same_label third one ≡ is_same_label third first
alike third one first same =
    same_answer (is_same_label third one) (is_same_label third first)
    (λ h. same_both one third first (turned third one h) (turned first one same))
    (λ h. same_both first third one (turned third first h) same)

itself : (one : ClassifiedActor) → Represents one one
itself one = record { label = same_itself one; before = omega arith }

-- An actor with the same label as `first` and no larger number can replace it.
instead : (one first other : ClassifiedActor) → is_same_label first one ≡ true → number_of one.actor ≤ number_of first.actor → Represents other first → Represents other one
instead one first other same earlier represents = record {
  label = same_both first one other same represents.label;
  before = omega (arith, earlier, represents.before);
}

-- ---- indices
any_append : {X : Type 0} (P : X → Type 0) (xs : List X) (y : X) → Any P xs → Any P (xs ++ y ∷ [])
any_append P [] y (k, x, below, is, holds) = absurd (omega arith)
any_append P (z ∷ xs) y (zero, x, below, is, holds) = (zero, x, omega arith, is, holds)
any_append P (z ∷ xs) y (suc k, x, below, is, holds) =
    let rest = any_append P xs y (k, x, omega arith, is, holds) in
    (suc rest.0, rest.1, omega (arith, rest.2), rest.3, rest.4)

-- If `P` is preserved for the overwritten element, `Any P` is preserved by the write.
any_write : {X : Type 0} (P : X → Type 0) (xs : List X) (place : ℕ) (first y : X) → slice_get xs place ≡ Some first → (P first → P y) → Any P xs → Any P (set xs place y)
any_write P [] place first y there more (k, x, below, is, holds) = absurd (omega arith)
any_write P (z ∷ xs) zero first y there more (zero, x, below, is, holds) =
    let same : z ≡ first = grind (arith, there) in
    (zero, y, omega arith, refl, more (subst P (sym is ∙ same) holds))
any_write P (z ∷ xs) zero first y there more (suc k, x, below, is, holds) = (suc k, x, omega arith, is, holds)
any_write P (z ∷ xs) (suc place) first y there more (zero, x, below, is, holds) = (zero, x, omega arith, is, holds)
any_write P (z ∷ xs) (suc place) first y there more (suc k, x, below, is, holds) =
    let rest = any_write P xs place first y there more (k, x, omega arith, is, holds) in
    (suc rest.0, rest.1, omega (arith, rest.2), rest.3, rest.4)

any_there : {X : Type 0} (P : X → Type 0) (xs : List X) (place : ℕ) (first : X) → slice_get xs place ≡ Some first → P first → Any P xs
any_there P [] place first there holds = absurd (grind (arith, there))
any_there P (z ∷ xs) zero first there holds = (zero, first, omega arith, grind (arith, there), holds)
any_there P (z ∷ xs) (suc place) first there holds =
    let rest = any_there P xs place first there holds in
    (suc rest.0, rest.1, omega (arith, rest.2), rest.3, rest.4)

-- ---- one more actor
among_more : (reported : List ClassifiedActor) (one : ClassifiedActor) (first_actors : List ClassifiedActor) → All (Contains reported) first_actors → All (Contains (reported ++ one ∷ [])) first_actors
among_more reported one first_actors among = All-weaker (Contains reported) (Contains (reported ++ one ∷ [])) (λ x has. Contains-append_left reported (one ∷ []) x has) first_actors among

-- If the list has no actor of this label, it has none with the label of an equally labelled actor.
none_alike : (first_actors : List ClassifiedActor) (one third : ClassifiedActor) → list_any (λ (first : ClassifiedActor). is_same_label first one) first_actors ≡ false → is_same_label third one ≡ true → list_any (is_same_label third) first_actors ≡ false
none_alike first_actors one third none same = not_any (list_any (is_same_label third) first_actors) (λ any.
    let there = passing (is_same_label third) first_actors any in
    contra (sym (passed (λ (first : ClassifiedActor). is_same_label first one) first_actors there.one there.among (same_both third there.one one there.passes same)) ∙ none))
  where
    not_any : (b : Bool) → (b ≡ true → ⊥) → b ≡ false
    not_any true h = absurd (h refl)
    not_any false h = refl

    contra : true ≡ false → ⊥
    contra h = cc

pub after_new : (reported first_actors : List ClassifiedActor) (one : ClassifiedActor) → list_any (λ (first : ClassifiedActor). is_same_label first one) first_actors ≡ false → AreFirstActorsOf reported first_actors → AreFirstActorsOf (reported ++ one ∷ []) (first_actors ++ one ∷ [])
after_new reported first_actors one new are = record {
  among = All-push (Contains (reported ++ one ∷ [])) first_actors one (among_more reported one first_actors are.among) (Contains-push reported one);
  each = All-push (λ x. Any (Represents x) (first_actors ++ one ∷ [])) reported one
      (All-weaker (λ x. Any (Represents x) first_actors) (λ x. Any (Represents x) (first_actors ++ one ∷ [])) (λ x any. any_append (Represents x) first_actors one any) reported are.each)
      (Any-push (Represents one) first_actors one (itself one));
  once = λ third. once_more (is_same_label third) first_actors one (are.once third) (none_alike first_actors one third new);
}

pub after_known : (reported first_actors : List ClassifiedActor) (one first : ClassifiedActor) (place : ℕ) → AreFirstActorsOf reported first_actors → slice_get first_actors place ≡ Some first → is_same_label first one ≡ true → number_of first.actor ≤ number_of one.actor
    → AreFirstActorsOf (reported ++ one ∷ []) first_actors
after_known reported first_actors one first place are there same later = record {
  among = among_more reported one first_actors are.among;
  each = All-push (λ x. Any (Represents x) first_actors) reported one are.each (any_there (Represents one) first_actors place first there (record { label = same; before = later }));
  once = are.once;
}

pub after_earlier : (reported first_actors : List ClassifiedActor) (one first : ClassifiedActor) (place : ℕ) → AreFirstActorsOf reported first_actors → slice_get first_actors place ≡ Some first → is_same_label first one ≡ true → number_of one.actor ≤ number_of first.actor
    → AreFirstActorsOf (reported ++ one ∷ []) (set first_actors place one)
after_earlier reported first_actors one first place are there same earlier = record {
  among = All-set (Contains (reported ++ one ∷ [])) first_actors place one (Contains-push reported one) (among_more reported one first_actors are.among);
  each = All-push (λ x. Any (Represents x) (set first_actors place one)) reported one
      (All-weaker (λ x. Any (Represents x) first_actors) (λ x. Any (Represents x) (set first_actors place one)) (λ x any. any_write (Represents x) first_actors place first one there (instead one first x same earlier) any) reported are.each)
      (any-set (Represents one) first_actors place one (within first_actors place first there) (itself one));
  once = λ third. subst (λ (n : ℕ). n ≤ 1) (sym (count_write (is_same_label third) first_actors place first one there (alike third one first same))) (are.once third);
}

pub none_yet : AreFirstActorsOf [] []
none_yet = record { among = λ k d below. absurd (omega arith); each = λ k d below. absurd (omega arith); once = λ one. omega arith }

pub read_at : {X : Type 0} (xs : List X) (place : ℕ) (x : X) → place < length xs → x ≡ get_or xs place x → slice_get xs place ≡ Some x
read_at [] place x below is = absurd (omega arith)
read_at (y ∷ xs) zero x below is = ap Some (sym is)
read_at (y ∷ xs) (suc place) x below is = read_at xs place x (omega arith) is
