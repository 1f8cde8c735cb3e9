-- Membership in lists.
use Rattle.std.proofs.Common.{◌≡◌, ℕ, zero, suc, Bool, true, false, cond, ◌||◌, List, [], ◌∷◌, ◌++◌, map, Contains, slice_get, take, drop, ◌+◌, Some, refl, ap, sym, subst, ◌∙◌, inl, inr, arith}
use Rattle.std.specs.Prelude.{filter, ◌⊎◌}
use Rattle.std.specs.List.{list_any}
use Rattle.conformance.proofs.ListSteps.{front_next}
use Rattle.conformance.proofs.Times.{none_of_both}

-- ---- membership
pub here : {X : Type 0} (x : X) (xs : List X) → Contains (x ∷ xs) x
here x xs = (0, omega arith, refl)

pub later : {X : Type 0} (y x : X) (xs : List X) → Contains xs x → Contains (y ∷ xs) x
later y x xs (k, below, is) = (suc k, omega arith, is)

pub is_among_none : {X : Type 0} (x : X) → Contains [] x → ⊥
is_among_none x (k, below, is) = omega arith

pub head_or_later : {X : Type 0} (y x : X) (xs : List X) → Contains (y ∷ xs) x → (y ≡ x) ⊎ Contains xs x
head_or_later y x xs (zero, below, is) = inl is
head_or_later y x xs (suc k, below, is) = inr (k, omega arith, is)

-- ---- tests
either : (a b : Bool) → (a || b) ≡ true → (a ≡ true) ⊎ (b ≡ true)
either true b h = inl refl
either false b h = inr h

or_true : (a : Bool) → (a || true) ≡ true
or_true true = refl
or_true false = refl

pub record Passing {X : Type 0} (test : X → Bool) (xs : List X) : Type 0 where
  pub one : X
  pub among : Contains xs one
  pub passes : test one ≡ true

-- If the test passes for any element, there is an element that passes.
pub passing : {X : Type 0} (test : X → Bool) (xs : List X) → list_any test xs ≡ true → Passing test xs
passing test [] h = absurd (grind (arith, h))
passing test (x ∷ xs) h =
    elim (either (test x) (list_any test xs) h) [
      | inl first ↦ record { one = x; among = here x xs; passes = first }
      | inr more ↦ let rest = passing test xs more in record { one = rest.one; among = later x rest.one xs rest.among; passes = rest.passes }
    ]

-- If an element passes, the test passes for some element.
pub passed : {X : Type 0} (test : X → Bool) (xs : List X) (x : X) → Contains xs x → test x ≡ true → list_any test xs ≡ true
passed test [] x among h = absurd (is_among_none x among)
passed test (y ∷ xs) x among h =
    elim (head_or_later y x xs among) [
      | inl first ↦ ap (λ (b : Bool). b || list_any test xs) (ap test first ∙ h)
      | inr more ↦ ap (λ (b : Bool). test y || b) (passed test xs x more h) ∙ or_true (test y)
    ]

-- ---- filters
kept_head : {X : Type 0} (test : X → Bool) (x : X) (xs : List X) → test x ≡ true → Contains (filter test (x ∷ xs)) x
kept_head test x xs h = subst (λ (b : Bool). Contains (cond b (x ∷ filter test xs) (filter test xs)) x) (sym h) (here x (filter test xs))

kept_later : {X : Type 0} (b : Bool) (y x : X) (xs : List X) → Contains xs x → Contains (cond b (y ∷ xs) xs) x
kept_later true y x xs among = later y x xs among
kept_later false y x xs among = among

pub stays : {X : Type 0} (test : X → Bool) (xs : List X) (x : X) → Contains xs x → test x ≡ true → Contains (filter test xs) x
stays test [] x among h = absurd (is_among_none x among)
stays test (y ∷ xs) x among h =
    elim (head_or_later y x xs among) [
      | inl first ↦ subst (λ (z : _). Contains (filter test (y ∷ xs)) z) first (kept_head test y xs (ap test first ∙ h))
      | inr more ↦ kept_later (test y) y x (filter test xs) (stays test xs x more h)
    ]

passes_head : {X : Type 0} (b : Bool) (y x : X) (xs : List X) → Contains (cond b (y ∷ xs) xs) x → ((b ≡ true) × (y ≡ x)) ⊎ Contains xs x
passes_head true y x xs among = elim (head_or_later y x xs among) [ inl first ↦ inl (refl, first) | inr more ↦ inr more ]
passes_head false y x xs among = inr among

-- An element that a filter keeps is in the list and passes the test.
pub kept : {X : Type 0} (test : X → Bool) (xs : List X) (x : X) → Contains (filter test xs) x → Contains xs x × (test x ≡ true)
kept test [] x among = absurd (is_among_none x among)
kept test (y ∷ xs) x among =
    elim (passes_head (test y) y x (filter test xs) among) [
      | inl first ↦ (subst (λ (z : _). Contains (y ∷ xs) z) first.1 (here y xs), sym (ap test first.1) ∙ first.0)
      | inr more ↦ let rest = kept test xs x more in (later y x xs rest.0, rest.1)
    ]

-- ---- indices
pub at_place : {X : Type 0} (xs : List X) (k : ℕ) (x : X) → slice_get xs k ≡ Some x → Contains xs x
at_place [] k x h = absurd (grind (arith, h))
at_place (y ∷ xs) zero x h = (0, omega arith, grind (arith, h))
at_place (y ∷ xs) (suc k) x h = later y x xs (at_place xs k x h)

-- ---- empty lists
pub both_none : {X : Type 0} (xs ys : List X) → xs ++ ys ≡ [] → (xs ≡ []) × (ys ≡ [])
both_none [] ys h = (refl, h)
both_none (x ∷ xs) ys h = absurd (grind (arith, h))

pub map_none : {X Y : Type 0} (f : X → Y) (xs : List X) → map f xs ≡ [] → xs ≡ []
map_none f [] h = refl
map_none f (x ∷ xs) h = absurd (grind (arith, h))

-- ---- one more element
any_after : {X : Type 0} (test : X → Bool) (xs : List X) (x : X) → list_any test xs ≡ false → test x ≡ false → list_any test (xs ++ x ∷ []) ≡ false
any_after test [] x none fails = ap (λ (b : Bool). b || false) fails
any_after test (y ∷ xs) x none fails =
    let both = none_of_both (test y) (list_any test xs) none in
    ap (λ (b : Bool). b || list_any test (xs ++ x ∷ [])) both.0 ∙ any_after test xs x both.1 fails

pub any_more : {X : Type 0} (test : X → Bool) (xs rest : List X) (n : ℕ) (x : X) → drop n xs ≡ x ∷ rest → list_any test (take n xs) ≡ false → test x ≡ false → list_any test (take (n + 1) xs) ≡ false
any_more test xs rest n x next none fails = ap (list_any test) (front_next xs rest n x next) ∙ any_after test (take n xs) x none fails
