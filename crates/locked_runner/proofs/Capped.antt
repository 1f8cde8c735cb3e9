-- Capped numbers. If the terms of a sum or the factors of a product are capped first, the capped result is the same.
use Rattle.std.proofs.Common.{◌≡◌, ◌≤◌, ◌<◌, ◌+◌, ◌*◌, ℕ, zero, suc, List, [], ◌∷◌, ◌++◌, length, map, take, get_or, min, slice_get, Some, sum_by, refl, sym, ap, ◌∙◌, inl, inr, arith}
use Rattle.std.proofs.Math.Nat.{mul-le-mul, min-eq_left, min-eq_right}
use Rattle.std.proofs.lemmas.Bool.{cases_lt}
use Rattle.std.proofs.lemmas.List.{map_more}
use Rattle.std.proofs.lemmas.List.Sums.{sum_by-cons}

pub capped_sum : (m a b : ℕ) → min (min a m + min b m) m ≡ min (a + b) m
capped_sum m a b = omega arith

-- if a factor is at or above the cap, so is the product, unless the other factor is 0
product_past : (m a b : ℕ) → m ≤ b → min (suc a * b) m ≡ m
product_past m a b past = let more : 1 * b ≤ suc a * b = mul-le-mul (omega arith) (omega arith) in omega arith

pub capped_product : (m a b : ℕ) → min (a * min b m) m ≡ min (a * b) m
capped_product m zero b = omega arith
capped_product m (suc a) b = elim (cases_lt b m) [
  | inl below ↦ ap (λ x. min (suc a * x) m) (min-eq_left (omega arith))
  | inr past ↦ (ap (λ x. min (suc a * x) m) (min-eq_right past) ∙ product_past m a m (omega arith)) ∙ sym (product_past m a b past)
]

-- a product of three factors, capped at each step, is the capped product
pub capped_products : (m a b c : ℕ) → min (a * min (b * min c m) m) m ≡ min (a * (b * c)) m
capped_products m a b c = ap (λ x. min (a * x) m) (capped_product m b c) ∙ capped_product m a (b * c)

-- two sums over one list are equal when capped, if their terms are equal when capped
pub capped_sums : {X : Type 0} (m : ℕ) (f g : X → ℕ) (xs : List X) → ((i : ℕ) (x : X) → slice_get xs i ≡ Some x → min (f x) m ≡ min (g x) m) → min (sum_by f xs) m ≡ min (sum_by g xs) m
capped_sums m f g [] same = refl
capped_sums m f g (x ∷ xs) same =
    let first : min (f x) m ≡ min (g x) m = same 0 x refl in
    let rest : min (sum_by f xs) m ≡ min (sum_by g xs) m = capped_sums m f g xs (λ i y e. same (suc i) y e) in
    omega (arith, sum_by-cons f x xs, sum_by-cons g x xs)

-- the capped sum of two capped terms is the capped sum of the terms
pub sum_of : (m a b a' b' all : ℕ) → a' ≡ min a m → b' ≡ min b m → all ≡ min (a' + b') m → all ≡ min (a + b) m
sum_of m a b a' b' all first second is = omega arith

pub product_of : (m a b c a' b' one once all : ℕ) → a' ≡ a → b' ≡ b → one ≡ min c m → once ≡ min (b' * one) m → all ≡ min (a' * once) m → all ≡ min (a * (b * c)) m
product_of m a b c a' b' one once all first second third fourth fifth = cc (capped_products m a b c)

-- the values for the first i elements, followed by the value for element i, are the values for the first i + 1 elements
pub pushed : {X : Type 0} (F : X → ℕ) (xs : List X) (i : ℕ) (x : X) (so_far new : List ℕ) (n : ℕ) → i < length xs → x ≡ get_or xs i x → so_far ≡ map F (take i xs) → new ≡ so_far ++ n ∷ [] → n ≡ F x
    → new ≡ map F (take (i + 1) xs)
pushed F xs i x so_far new n inside at is is-new is-n =
    is-new ∙ (ap (λ (l : List ℕ). l ++ n ∷ []) is ∙ (ap (λ (y : ℕ). map F (take i xs) ++ y ∷ []) (is-n ∙ ap F at) ∙ sym (map_more F xs i x inside)))
