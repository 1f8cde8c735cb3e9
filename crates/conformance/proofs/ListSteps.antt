-- A loop over a list.
use Rattle.std.proofs.Common.{◌≡◌, ℕ, zero, suc, ◌+◌, ◌≤◌, List, [], ◌∷◌, ◌++◌, length, take, drop, slice_get, Some, refl, ap, sym, ◌∙◌, add-one, length-take, append_assoc, append-nil, arith}

there : {X : Type 0} (xs rest : List X) (n : ℕ) (x : X) → drop n xs ≡ x ∷ rest → slice_get xs n ≡ Some x
there [] rest zero x h = grind (arith, h)
there [] rest (suc n) x h = grind (arith, h)
there (one ∷ xs) rest zero x h = grind (arith, h)
there (one ∷ xs) rest (suc n) x h = there xs rest n x h

rest_there : {X : Type 0} (xs rest : List X) (n : ℕ) (x : X) → drop n xs ≡ x ∷ rest → drop (suc n) xs ≡ rest
rest_there [] rest zero x h = grind (arith, h)
rest_there [] rest (suc n) x h = grind (arith, h)
rest_there (one ∷ xs) rest zero x h = grind (arith, h)
rest_there (one ∷ xs) rest (suc n) x h = rest_there xs rest n x h

within_there : {X : Type 0} (xs rest : List X) (n : ℕ) (x : X) → drop n xs ≡ x ∷ rest → suc n ≤ length xs
within_there [] rest zero x h = grind (arith, h)
within_there [] rest (suc n) x h = grind (arith, h)
within_there (one ∷ xs) rest zero x h = omega arith
within_there (one ∷ xs) rest (suc n) x h = omega (arith, within_there xs rest n x h)

front_there : {X : Type 0} (xs rest : List X) (n : ℕ) (x : X) → drop n xs ≡ x ∷ rest → take (suc n) xs ≡ take n xs ++ x ∷ []
front_there [] rest zero x h = grind (arith, h)
front_there [] rest (suc n) x h = grind (arith, h)
front_there (one ∷ xs) rest zero x h = grind (arith, h)
front_there (one ∷ xs) rest (suc n) x h = ap (λ more. one ∷ more) (front_there xs rest n x h)

all_there : {X : Type 0} (xs : List X) (n : ℕ) → drop n xs ≡ [] → take n xs ≡ xs
all_there [] zero h = refl
all_there [] (suc n) h = refl
all_there (one ∷ xs) zero h = grind (arith, h)
all_there (one ∷ xs) (suc n) h = ap (λ more. one ∷ more) (all_there xs n h)

both_there : {X : Type 0} (xs : List X) (n : ℕ) → xs ≡ take n xs ++ drop n xs
both_there [] zero = refl
both_there [] (suc n) = refl
both_there (one ∷ xs) zero = refl
both_there (one ∷ xs) (suc n) = ap (λ more. one ∷ more) (both_there xs n)

-- ---- the next element
pub next_is : {X : Type 0} (xs rest : List X) (n : ℕ) (x : X) → drop n xs ≡ x ∷ rest → slice_get xs n ≡ Some x
next_is xs rest n x h = there xs rest n x h

pub rest_next : {X : Type 0} (xs rest : List X) (n : ℕ) (x : X) → drop n xs ≡ x ∷ rest → rest ≡ drop (n + 1) xs
rest_next xs rest n x h = rw add-one (sym (rest_there xs rest n x h))

pub within_next : {X : Type 0} (xs rest : List X) (n : ℕ) (x : X) → drop n xs ≡ x ∷ rest → n + 1 ≤ length xs
within_next xs rest n x h = omega (arith, within_there xs rest n x h)

pub front_next : {X : Type 0} (xs rest : List X) (n : ℕ) (x : X) → drop n xs ≡ x ∷ rest → take (n + 1) xs ≡ take n xs ++ x ∷ []
front_next xs rest n x h = rw add-one (front_there xs rest n x h)

-- The list is the elements read, the next one and the rest.
pub both_next : {X : Type 0} (xs rest : List X) (n : ℕ) (x : X) → drop n xs ≡ x ∷ rest → xs ≡ (take n xs ++ x ∷ []) ++ rest
both_next xs rest n x h =
    both_there xs (n + 1) ∙ (ap (λ more. take (n + 1) xs ++ more) (sym (rest_next xs rest n x h)) ∙ ap (λ more. more ++ rest) (front_next xs rest n x h))

-- ---- the end
pub all_taken : {X : Type 0} (xs : List X) (n : ℕ) → drop n xs ≡ [] → take n xs ≡ xs
all_taken xs n h = all_there xs n h

pub number_next : {X : Type 0} (xs rest : List X) (n : ℕ) (x : X) → drop n xs ≡ x ∷ rest → n + 1 ≡ length (take n xs) + 1
number_next xs rest n x h = omega (arith, within_there xs rest n x h, length-take n xs)

-- ---- the elements read, without their number
-- One more element is read.
pub one_read : {X : Type 0} (all read rest rest' : List X) (x : X) → read ++ rest ≡ all → rest ≡ x ∷ rest' → (read ++ x ∷ []) ++ rest' ≡ all
one_read all read rest rest' x is next = append_assoc read (x ∷ []) rest' ∙ ap (λ more. read ++ more) (sym next) ∙ is

-- All elements are read.
pub all_read : {X : Type 0} (all read rest : List X) → read ++ rest ≡ all → rest ≡ [] → read ≡ all
all_read all read rest is none = sym (append-nil read) ∙ ap (λ more. read ++ more) (sym none) ∙ is
