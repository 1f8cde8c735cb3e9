-- Lemmas about the values that `read_each` returns.
use Rattle.std.proofs.Common.{◌≡◌, ℕ, zero, suc, ◌+◌, List, [], ◌∷◌, length, map, slice_get, Some, Result, Ok, refl, sym, ap, subst, ◌∙◌, arith, zero-add}
use Rattle.support.specs.Reading.{read_each}
use Rattle.support.proofs.Steps.{bind_ok, ok_injective}

-- reading a list reads its first element, and then the other elements
read_parts : {X Y F : Type 0} (read : ℕ → X → Result Y F) (n : ℕ) (x : X) (xs : List X) (ys : List Y) → read_each read n (x ∷ xs) ≡ Ok ys
    → (y : Y) × (rest : List Y) × (read n x ≡ Ok y) × (read_each read (n + 1) xs ≡ Ok rest) × (ys ≡ y ∷ rest)
read_parts {F = F} read n x xs ys e =
    let a = bind_ok (read n x) _ _ e in
    let b = bind_ok (read_each read (n + 1) xs) _ _ a.2 in
    (a.0, b.0, a.1, b.1, sym (ok_injective {F = F} _ _ b.2))

-- a list that was read has one value for each element
pub read_length : {X Y F : Type 0} (read : ℕ → X → Result Y F) (n : ℕ) (xs : List X) (ys : List Y) → read_each read n xs ≡ Ok ys → length ys ≡ length xs
read_length {F = F} read n [] ys e = ap (λ (zs : List _). length zs) (sym (ok_injective {F = F} _ _ e))
read_length read n (x ∷ xs) ys e =
    let parts = read_parts read n x xs ys e in
    ap (λ (zs : List _). length zs) parts.4 ∙ ap (λ (m : ℕ). suc m) (read_length read (n + 1) xs parts.1 parts.3)

-- the value at an index was read from the element at that index
read_from : {X Y F : Type 0} (read : ℕ → X → Result Y F) (n : ℕ) (xs : List X) (ys : List Y) (i : ℕ) (y : Y) → read_each read n xs ≡ Ok ys → slice_get ys i ≡ Some y
    → (x : X) × (slice_get xs i ≡ Some x) × (read (n + i) x ≡ Ok y)
read_from {F = F} read n [] ys i y e here =
    let none = ok_injective {F = F} _ _ e in
    let nowhere = subst (λ (zs : List _). slice_get zs i ≡ Some y) (sym none) here in
    absurd cc
read_from read n (x ∷ xs) ys zero y e here =
    let parts = read_parts read n x xs ys e in
    let first = subst (λ (zs : List _). slice_get zs 0 ≡ Some y) parts.4 here in
    let same : parts.0 ≡ y = cc in
    let place : n + 0 ≡ n = omega arith in
    (x, refl, rw (place, ← same) parts.2)
read_from read n (x ∷ xs) ys (suc i) y e here =
    let parts = read_parts read n x xs ys e in
    let later = subst (λ (zs : List _). slice_get zs (suc i) ≡ Some y) parts.4 here in
    let place : n + suc i ≡ n + 1 + i = omega arith in
    let found = read_from read (n + 1) xs parts.1 i y parts.3 later in
    (found.0, found.1, rw place found.2)

pub read_at : {X Y F : Type 0} (read : ℕ → X → Result Y F) (xs : List X) (ys : List Y) (i : ℕ) (y : Y) → read_each read 0 xs ≡ Ok ys → slice_get ys i ≡ Some y
    → (x : X) × (slice_get xs i ≡ Some x) × (read i x ≡ Ok y)
read_at read xs ys i y e here =
    let found = read_from read 0 xs ys i y e here in
    (found.0, found.1, subst (λ (k : ℕ). read k found.0 ≡ Ok y) (zero-add i) found.2)

-- if g of each value is f of the element from which the value was read, `map g` of the values is `map f` of the elements
read_images_from : {X Y Z F : Type 0} (read : ℕ → X → Result Y F) (f : X → Z) (g : Y → Z) (n : ℕ) (xs : List X) (ys : List Y) → ((i : ℕ) (x : X) (y : Y) → read i x ≡ Ok y → g y ≡ f x)
    → read_each read n xs ≡ Ok ys → map g ys ≡ map f xs
read_images_from {F = F} read f g n [] ys same e = ap (map g) (sym (ok_injective {F = F} _ _ e))
read_images_from read f g n (x ∷ xs) ys same e =
    let parts = read_parts read n x xs ys e in
    let rest = read_images_from read f g (n + 1) xs parts.1 same parts.3 in
    ap (map g) parts.4 ∙ rw (same n x parts.0 parts.2, rest) refl

pub read_images : {X Y Z F : Type 0} (read : ℕ → X → Result Y F) (f : X → Z) (g : Y → Z) (xs : List X) (ys : List Y) → ((i : ℕ) (x : X) (y : Y) → read i x ≡ Ok y → g y ≡ f x)
    → read_each read 0 xs ≡ Ok ys → map g ys ≡ map f xs
read_images read f g xs ys same e = read_images_from read f g 0 xs ys same e
