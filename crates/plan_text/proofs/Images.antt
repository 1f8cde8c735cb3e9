-- Lemmas about a loop that maps each element of a list to a value.
use Rattle.std.proofs.Common.{◌≡◌, ◌≤◌, ◌<◌, ◌+◌, ℕ, zero, suc, List, [], ◌∷◌, ◌++◌, length, get_or, map, take, slice_get, Some, refl, sym, ap, ◌∙◌, add-one, arith}
use Rattle.std.specs.List.{enumerate_from}
use Rattle.std.proofs.lemmas.List.{map_push}

take_more : {Y : Type 0} (ys : List Y) (i : ℕ) (y : Y) → slice_get ys i ≡ Some y → take (suc i) ys ≡ take i ys ++ y ∷ []
take_more [] i y e = absurd cc
take_more (x ∷ ys) zero y e = let same : x ≡ y = cc in rw same refl
take_more (x ∷ ys) (suc i) y e = ap (λ (zs : List _). x ∷ zs) (take_more ys i y e)

-- after one more value was appended, the views of the values are the first i + 1 results
pub image_pushed : {V Y : Type 0} (view : V → Y) (values : List V) (value : V) (ys : List Y) (i : ℕ) (y : Y) → slice_get ys i ≡ Some y → view value ≡ y → map view values ≡ take i ys
    → map view (values ++ value ∷ []) ≡ take (i + 1) ys
image_pushed view values value ys i y here seen prior =
    map_push view values value ∙ rw (prior, seen, add-one) (sym (take_more ys i y here))

take_past : {Y : Type 0} (ys : List Y) (i : ℕ) → length ys ≤ i → take i ys ≡ ys
take_past [] zero past = refl
take_past [] (suc i) past = refl
take_past (y ∷ ys) zero past = absurd (omega (arith, past))
take_past (y ∷ ys) (suc i) past = ap (λ (zs : List _). y ∷ zs) (take_past ys i (omega (arith, past)))

-- after the last element, the views of the values are all results
pub image_whole : {V Y : Type 0} (view : V → Y) (values : List V) (ys : List Y) (i : ℕ) → length ys ≤ i → map view values ≡ take i ys → map view values ≡ ys
image_whole view values ys i past prior = prior ∙ take_past ys i past

-- the element of an enumerated list at an index is the list's element there, paired with the index
enumerated_from : {X Y : Type 0} (f : ℕ × X → Y) (n : ℕ) (xs : List X) (i : ℕ) (d : X) → i < length xs → slice_get (map f (enumerate_from n xs)) i ≡ Some (f (n + i, get_or xs i d))
enumerated_from f n [] i d inside = absurd (omega (arith, inside))
enumerated_from f n (x ∷ xs) zero d inside =
    let place : n ≡ n + 0 = omega arith in
    ap (λ (k : ℕ). Some (f (k, x))) place
enumerated_from f n (x ∷ xs) (suc i) d inside =
    let place : n + 1 + i ≡ n + suc i = omega arith in
    enumerated_from f (n + 1) xs i d (omega (arith, inside)) ∙ ap (λ (k : ℕ). Some (f (k, get_or xs i d))) place

pub enumerated : {X Y : Type 0} (f : ℕ × X → Y) (xs : List X) (i : ℕ) (d : X) → i < length xs → slice_get (map f (enumerate_from 0 xs)) i ≡ Some (f (i, get_or xs i d))
enumerated f xs i d inside =
    let place : 0 + i ≡ i = omega arith in
    enumerated_from f 0 xs i d inside ∙ ap (λ (k : ℕ). Some (f (k, get_or xs i d))) place
