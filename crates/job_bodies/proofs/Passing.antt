-- Lemmas about checks that pass: two steps in order, a test, and a check of each element of a list.
use Rattle.std.proofs.Common.{◌≡◌, ◌+◌, ℕ, zero, suc, Bool, true, false, List, [], ◌∷◌, map, slice_get, Some, Result, Ok, Err, refl, sym, ap, subst, ◌∙◌, arith, zero-add}
use Rattle.std.specs.List.{list_all, list_any, enumerate_from}
use Rattle.std.proofs.lemmas.Bool.{and_from, or_parts}
use Rattle.support.specs.Reading.{◌>>=◌, ensure, check_each}

-- if two steps in order pass, each of them passes
pub both_passed : {B F : Type 0} (r : Result (Unit {0}) F) (next : Unit {0} → Result B F) (y : B) → (r >>= next) ≡ Ok y → (r ≡ Ok tt) × (next tt ≡ Ok y)
both_passed (Ok u) next y h = (refl, h)
both_passed (Err fault) next y h = cc

pub both_pass : {B F : Type 0} (r : Result (Unit {0}) F) (next : Unit {0} → Result B F) (y : B) → r ≡ Ok tt → next tt ≡ Ok y → (r >>= next) ≡ Ok y
both_pass (Ok u) next y first second = second
both_pass (Err fault) next y first second = cc

pub test_passed : {F : Type 0} (b : Bool) (fault : F) → ensure b fault ≡ Ok tt → b ≡ true
test_passed true fault h = refl
test_passed false fault h = cc

pub test_passes : {F : Type 0} (b : Bool) (fault : F) → b ≡ true → ensure b fault ≡ Ok tt
test_passes true fault h = refl
test_passes false fault h = cc

-- the property holds for each element with its index
abbrev pub EachPlace : {X : Type 0} → List X → (ℕ → X → Type 0) → Type 0
EachPlace xs P = (i : ℕ) (x : _) → slice_get xs i ≡ Some x → P i x

-- a property of each element with its index holds for each element of the list's tail, with the index increased by one
each_of_tail : {X : Type 0} (P : ℕ → X → Type 0) (n : ℕ) (y : X) (xs : List X) → EachPlace (y ∷ xs) (λ i x. P (n + i) x) → EachPlace xs (λ i x. P (n + 1 + i) x)
each_of_tail P n y xs h i x e =
    let place : n + suc i ≡ n + 1 + i = omega arith in
    subst (λ (k : ℕ). P k x) place (h (suc i) x e)

each_passed_from : {X F : Type 0} (check : ℕ → X → Result (Unit {0}) F) (n : ℕ) (xs : List X) → check_each check n xs ≡ Ok tt → EachPlace xs (λ i x. check (n + i) x ≡ Ok tt)
each_passed_from check n [] h i x e = cc
each_passed_from check n (y ∷ xs) h zero x e =
    let same : y ≡ x = cc in
    let place : n + 0 ≡ n = omega arith in
    rw (place, ← same) (both_passed (check n y) _ tt h).0
each_passed_from check n (y ∷ xs) h (suc i) x e =
    let place : n + suc i ≡ n + 1 + i = omega arith in
    rw place (each_passed_from check (n + 1) xs (both_passed (check n y) _ tt h).1 i x e)

each_passes_from : {X F : Type 0} (check : ℕ → X → Result (Unit {0}) F) (n : ℕ) (xs : List X) → EachPlace xs (λ i x. check (n + i) x ≡ Ok tt) → check_each check n xs ≡ Ok tt
each_passes_from check n [] h = refl
each_passes_from check n (y ∷ xs) h =
    let place : n + 0 ≡ n = omega arith in
    let first : check n y ≡ Ok tt = subst (λ (k : ℕ). check k y ≡ Ok tt) place (h 0 y refl) in
    both_pass (check n y) _ tt first (each_passes_from check (n + 1) xs (each_of_tail (λ i x. check i x ≡ Ok tt) n y xs h))

pub each_passed : {X F : Type 0} (check : ℕ → X → Result (Unit {0}) F) (xs : List X) → check_each check 0 xs ≡ Ok tt → EachPlace xs (λ i x. check i x ≡ Ok tt)
each_passed check xs h i x e = subst (λ (k : ℕ). check k x ≡ Ok tt) (zero-add i) (each_passed_from check 0 xs h i x e)

pub each_passes : {X F : Type 0} (check : ℕ → X → Result (Unit {0}) F) (xs : List X) → EachPlace xs (λ i x. check i x ≡ Ok tt) → check_each check 0 xs ≡ Ok tt
each_passes check xs h = each_passes_from check 0 xs (λ i x e. subst (λ (k : ℕ). check k x ≡ Ok tt) (sym (zero-add i)) (h i x e))

-- if each element passes a test, `list_all` holds for it
pub list_all_from : {X : Type 0} (test : X → Bool) (xs : List X) → EachPlace xs (λ i x. test x ≡ true) → list_all test xs ≡ true
list_all_from test [] h = refl
list_all_from test (y ∷ xs) h = and_from (test y) _ (h 0 y refl) (list_all_from test xs (λ i x e. h (suc i) x e))

pub list_all_enumerated_from : {X : Type 0} (test : ℕ × X → Bool) (n : ℕ) (xs : List X) → EachPlace xs (λ i x. test (n + i, x) ≡ true) → list_all test (enumerate_from n xs) ≡ true
list_all_enumerated_from test n [] h = refl
list_all_enumerated_from test n (y ∷ xs) h =
    let place : n + 0 ≡ n = omega arith in
    let first : test (n, y) ≡ true = subst (λ (k : ℕ). test (k, y) ≡ true) place (h 0 y refl) in
    and_from (test (n, y)) _ first (list_all_enumerated_from test (n + 1) xs (each_of_tail (λ i x. test (i, x) ≡ true) n y xs h))

-- if `list_any` does not hold for a test, each element fails it
pub list_any_get : {X : Type 0} (test : X → Bool) (xs : List X) → list_any test xs ≡ false → EachPlace xs (λ i x. test x ≡ false)
list_any_get test [] h i x e = cc
list_any_get test (y ∷ xs) h zero x e =
    let same : y ≡ x = cc in
    ap test (sym same) ∙ (or_parts (test y) _ h).0
list_any_get test (y ∷ xs) h (suc i) x e = list_any_get test xs (or_parts (test y) _ h).1 i x e

pub list_any_from : {X : Type 0} (test : X → Bool) (xs : List X) → EachPlace xs (λ i x. test x ≡ false) → list_any test xs ≡ false
list_any_from test [] h = refl
list_any_from test (y ∷ xs) h = rw (h 0 y refl) (list_any_from test xs (λ i x e. h (suc i) x e))

-- each element of a mapped list is the image of the list's element at the same index
pub mapped_get : {X Y : Type 0} (f : X → Y) (xs : List X) (i : ℕ) (y : Y) → slice_get (map f xs) i ≡ Some y → (x : X) × (slice_get xs i ≡ Some x) × (f x ≡ y)
mapped_get f [] i y e = cc
mapped_get f (x ∷ xs) zero y e = (x, refl, cc)
mapped_get f (x ∷ xs) (suc i) y e = mapped_get f xs i y e
