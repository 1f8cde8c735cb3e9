-- Indices in a list.
use Rattle.std.proofs.Common.{◌≡◌, ◌≤◌, ◌<◌, ℕ, zero, suc, List, [], ◌∷◌, ◌++◌, length, Some, refl, slice_get, inl, inr, arith}
use Rattle.std.specs.Prelude.{◌⊎◌}

pub there_before : {X : Type 0} (xs ys : List X) (i : ℕ) (x : X) → slice_get xs i ≡ Some x → slice_get (xs ++ ys) i ≡ Some x
there_before [] ys i x h = absurd (grind (arith, h))
there_before (y ∷ xs) ys zero x h = h
there_before (y ∷ xs) ys (suc i) x h = there_before xs ys i x h

pub there_last : {X : Type 0} (xs : List X) (x : X) → slice_get (xs ++ x ∷ []) (length xs) ≡ Some x
there_last [] x = refl
there_last (y ∷ xs) x = there_last xs x

pub within : {X : Type 0} (xs : List X) (place : ℕ) (first : X) → slice_get xs place ≡ Some first → place < length xs
within [] place first there = absurd (grind (arith, there))
within (z ∷ xs) zero first there = omega arith
within (z ∷ xs) (suc place) first there = omega (arith, within xs place first there)

-- An element of a concatenation is in the first list, or its index is not below the length of that list.
pub before_or_after : {X : Type 0} (xs ys : List X) (i : ℕ) (x : X) → slice_get (xs ++ ys) i ≡ Some x → (slice_get xs i ≡ Some x) ⊎ (length xs ≤ i)
before_or_after [] ys i x h = inr (omega arith)
before_or_after (y ∷ xs) ys zero x h = inl h
before_or_after (y ∷ xs) ys (suc i) x h = elim (before_or_after xs ys i x h) [ inl before ↦ inl before | inr after ↦ inr (omega (arith, after)) ]
