-- The number of elements that pass a test.
use Rattle.std.proofs.Common.{◌≡◌, ◌≤◌, ◌+◌, ℕ, zero, suc, Bool, true, false, cond, ◌||◌, List, [], ◌∷◌, ◌++◌, length, set, slice_get, count_by, Some, None, refl, ap, sym, ◌∙◌, arith}
use Rattle.std.specs.Prelude.{position, nat_lt}
use Rattle.std.specs.List.{list_any, position_or_len}
use Rattle.std.proofs.lemmas.Grind.{common_steps}
use Rattle.std.proofs.lemmas.List.Folds.{list_any_none}
use Rattle.std.proofs.lemmas.List.Sums.{sum_by-cons, sum_by_push, fails_before_first}

pub none_of_both : (a b : Bool) → (a || b) ≡ false → (a ≡ false) × (b ≡ false)
none_of_both true b h = absurd (grind (arith, h))
none_of_both false b h = (refl, h)

-- ---- element by element
abbrev tally : Bool → ℕ
tally passes = cond passes 1 0

count_head : {X : Type 0} (test : X → Bool) (x : X) (xs : List X) → count_by test (x ∷ xs) ≡ cond (test x) 1 0 + count_by test xs
count_head {X} test x xs = sum_by-cons (λ (y : X). cond (test y) 1 0) x xs

pub count_push : {X : Type 0} (test : X → Bool) (xs : List X) (x : X) → count_by test (xs ++ x ∷ []) ≡ count_by test xs + cond (test x) 1 0
count_push {X} test xs x = sum_by_push (λ (y : X). cond (test y) 1 0) xs x

none_counted : {X : Type 0} (test : X → Bool) (xs : List X) → list_any test xs ≡ false → count_by test xs ≡ 0
none_counted test [] none = refl
none_counted test (x ∷ xs) none =
    let both = none_of_both (test x) (list_any test xs) none in
    let first : tally (test x) ≡ 0 = ap tally both.0 in
    omega (arith, count_head test x xs, first, none_counted test xs both.1)

-- ---- at most one
once_if : (passes : Bool) (before later : ℕ) → before ≤ 1 → (passes ≡ true → before ≡ 0) → later ≡ before + cond passes 1 0 → later ≤ 1
once_if true before later few none is = omega (arith, none refl, is)
once_if false before later few none is = omega (arith, few, is)

-- One more element, if no earlier one passes whenever it does.
pub once_more : {X : Type 0} (test : X → Bool) (xs : List X) (x : X) → count_by test xs ≤ 1 → (test x ≡ true → list_any test xs ≡ false) → count_by test (xs ++ x ∷ []) ≤ 1
once_more test xs x once fresh = once_if (test x) (count_by test xs) _ once (λ passes. none_counted test xs (fresh passes)) (count_push test xs x)

-- ---- a write
-- Writing an element for which the test gives the same result.
pub count_write : {X : Type 0} (test : X → Bool) (xs : List X) (place : ℕ) (first y : X) → slice_get xs place ≡ Some first → test y ≡ test first → count_by test (set xs place y) ≡ count_by test xs
count_write test [] place first y there same = absurd (grind (arith, there))
count_write test (x ∷ xs) zero first y there same =
    let is : x ≡ first = grind (arith, there) in
    count_head test y xs ∙ (ap (λ (b : Bool). tally b + count_by test xs) (same ∙ sym (ap test is)) ∙ sym (count_head test x xs))
count_write test (x ∷ xs) (suc place) first y there same =
    count_head test x (set xs place y) ∙ (ap (λ (n : ℕ). tally (test x) + n) (count_write test xs place first y there same) ∙ sym (count_head test x xs))

-- ---- a search
beyond_if : (place many : ℕ) → cond (nat_lt place many) (Some place) None ≡ None → many ≤ place
beyond_if place many none = grind (arith, common_steps, none)

pub none_passes : {X : Type 0} (test : X → Bool) (xs : List X) → position test xs ≡ None → list_any test xs ≡ false
none_passes test xs none =
    let beyond = beyond_if (position_or_len test xs) (length xs) none in
    list_any_none test xs (λ k d below. fails_before_first test xs k d (omega (arith, beyond, below)))
