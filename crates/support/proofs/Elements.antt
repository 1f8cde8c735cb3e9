-- Lemmas about the elements of a changed list by index, and about lists with equal elements.
use Rattle.std.proofs.Common.{◌≡◌, ℕ, zero, suc, ◌<◌, ◌≢◌, ◌⊎◌, inl, inr, ⊎_elim, List, [], ◌∷◌, ◌++◌, length, set, slice_get, Some, refl, ap, arith}
use Rattle.std.proofs.lemmas.Option.{same_Some}

pub slice_get-append_left : {X : Type 0} (xs ys : List X) (i : ℕ) → i < length xs → slice_get (xs ++ ys) i ≡ slice_get xs i
slice_get-append_left [] ys i inside = absurd (omega arith)
slice_get-append_left (x ∷ xs) ys zero inside = refl
slice_get-append_left (x ∷ xs) ys (suc i) inside = slice_get-append_left xs ys i (omega arith)

pub slice_get_push : {X : Type 0} (xs : List X) (y : X) → slice_get (xs ++ y ∷ []) (length xs) ≡ Some y
slice_get_push [] y = refl
slice_get_push (x ∷ xs) y = slice_get_push xs y

-- if y is appended to a list, each element of the new list is an element of the old one, or is y at the last index
pub slice_get_push_cases : {X : Type 0} (xs : List X) (y : X) (i : ℕ) (x : X) → slice_get (xs ++ y ∷ []) i ≡ Some x → (slice_get xs i ≡ Some x) ⊎ ((i ≡ length xs) × (y ≡ x))
slice_get_push_cases [] y zero x e = inr (refl, same_Some y x e)
slice_get_push_cases [] y (suc i) x e = absurd cc
slice_get_push_cases (z ∷ xs) y zero x e = inl e
slice_get_push_cases (z ∷ xs) y (suc i) x e = ⊎_elim (λ before. inl before) (λ last. inr (ap suc last.0, last.1)) (slice_get_push_cases xs y i x e)

pub slice_get-set_same : {X : Type 0} (xs : List X) (i : ℕ) (y : X) → i < length xs → slice_get (set xs i y) i ≡ Some y
slice_get-set_same [] i y inside = absurd (omega arith)
slice_get-set_same (x ∷ xs) zero y inside = refl
slice_get-set_same (x ∷ xs) (suc i) y inside = slice_get-set_same xs i y (omega arith)

pub slice_get-set_other : {X : Type 0} (xs : List X) (i k : ℕ) (y : X) → k ≢ i → slice_get (set xs i y) k ≡ slice_get xs k
slice_get-set_other [] i k y other = refl
slice_get-set_other (x ∷ xs) zero zero y other = absurd (other refl)
slice_get-set_other (x ∷ xs) zero (suc k) y other = refl
slice_get-set_other (x ∷ xs) (suc i) zero y other = refl
slice_get-set_other (x ∷ xs) (suc i) (suc k) y other = slice_get-set_other xs i k y (λ e. other (ap suc e))

-- if y replaces the element at i, the new list has y at i, and the old element at each other index
pub slice_get_set_cases : {X : Type 0} (xs : List X) (i : ℕ) (y : X) (k : ℕ) (x : X) → slice_get (set xs i y) k ≡ Some x → ((k ≡ i) × (y ≡ x)) ⊎ ((k ≢ i) × (slice_get xs k ≡ Some x))
slice_get_set_cases [] i y k x e = absurd cc
slice_get_set_cases (z ∷ xs) zero y zero x e = inl (refl, same_Some y x e)
slice_get_set_cases (z ∷ xs) zero y (suc k) x e = inr (omega arith, e)
slice_get_set_cases (z ∷ xs) (suc i) y zero x e = inr (omega arith, e)
slice_get_set_cases (z ∷ xs) (suc i) y (suc k) x e = ⊎_elim (λ here. inl (ap suc here.0, here.1)) (λ there. inr (let other : k ≢ i = there.0 in omega arith, there.1)) (slice_get_set_cases xs i y k x e)

-- lists with equal elements at each index are equal
pub same_by_slice_get : {X : Type 0} (xs ys : List X) → ((i : ℕ) → slice_get xs i ≡ slice_get ys i) → xs ≡ ys
same_by_slice_get [] [] same = refl
same_by_slice_get [] (y ∷ ys) same = let e = same 0 in absurd cc
same_by_slice_get (x ∷ xs) [] same = let e = same 0 in absurd cc
same_by_slice_get (x ∷ xs) (y ∷ ys) same = let e = same_Some x y (same 0) in let rest = same_by_slice_get xs ys (λ i. same (suc i)) in cc
