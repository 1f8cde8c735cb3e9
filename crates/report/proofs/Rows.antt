-- Texts that are put together from parts.
use Rattle.std.proofs.Common.{◌≡◌, ◌<◌, ◌≤◌, ◌+◌, ◌-◌, ℕ, suc, arith, List, [], ◌∷◌, ◌++◌, length, get_or, drop, map, flat_map, Result, Ok, Err, OnOk, sym, ap, refl, ◌∙◌, append_assoc}
use Rattle.std.specs.List.{enumerate_from, join_by, range_with_len}
use Rattle.std.proofs.lemmas.List.{at_drop_more}
use Rattle.std.proofs.lemmas.List.Folds.{flat_map-map}

-- the texts of the elements from this index on
abbrev pub rest_of : {X Y : Type 0} → (ℕ × X → List Y) → List X → ℕ → List Y
rest_of f xs i = flat_map f (enumerate_from i (drop i xs))

-- the text after one more element
pub part_more : {X Y : Type 0} (f : ℕ × X → List Y) (xs : List X) (i : ℕ) (d x : X) (front all : List Y) → i < length xs → x ≡ get_or xs i d → front ++ rest_of f xs i ≡ all → (front ++ f (i, x)) ++ rest_of f xs (i + 1) ≡ all
part_more {X} {Y} f xs i d x front all inside here prefix_is =
    let turn : rest_of f xs i ≡ f (i, x) ++ rest_of f xs (i + 1) =
    at_drop_more (λ (ys : List X). flat_map f (enumerate_from i ys)) xs i d inside
    ∙ ap (λ (y : X). f (i, y) ++ rest_of f xs (i + 1)) (sym here) in
    append_assoc front (f (i, x)) (rest_of f xs (i + 1)) ∙ (sym (ap (λ (ys : List Y). front ++ ys) turn) ∙ prefix_is)

-- joining under a view is joining the viewed texts
pub row_seen : {X A : Type 0} (view : X → List A) (separator : List A) (xs : List X) → join_by view separator xs ≡ join_by (λ part. part) separator (map view xs)
row_seen view separator [] = refl
row_seen view separator (x ∷ xs) = ap (λ (rest : List _). view x ++ rest) (sym (flat_map-map (λ part. separator ++ part) view xs))

-- two texts appended in order
pub both_pushed : {X E : Type 0} (r : Result X E) (old middle new first second : List ℕ) → middle ≡ old ++ first → OnOk r (new ≡ middle ++ second) → OnOk r (new ≡ old ++ (first ++ second))
both_pushed (Ok x) old middle new first second is_first is_second = is_second ∙ (ap (λ (t : List ℕ). t ++ second) is_first ∙ append_assoc old first second)
both_pushed (Err e) old middle new first second is_first is_second = tt

-- the texts of the numbers from i up to n
abbrev pub later : {Y : Type 0} → (ℕ → List Y) → ℕ → ℕ → List Y
later f n i = flat_map f (range_with_len i (n - i))

-- the text after one more number
pub later_more : {Y : Type 0} (f : ℕ → List Y) (n i : ℕ) (front all : List Y) → i < n → front ++ later f n i ≡ all → (front ++ f i) ++ later f n (i + 1) ≡ all
later_more {Y} f n i front all inside is =
    let left : n - i ≡ suc (n - (i + 1)) = omega (arith, inside) in
    let turn : later f n i ≡ f i ++ later f n (i + 1) = ap (λ k. flat_map f (range_with_len i k)) left in
    append_assoc front (f i) (later f n (i + 1)) ∙ (sym (ap (λ (ys : List Y). front ++ ys) turn) ∙ is)

-- no number is left
pub none_later : {Y : Type 0} (f : ℕ → List Y) (n i : ℕ) → n ≤ i → later f n i ≡ []
none_later f n i past = ap (λ k. flat_map f (range_with_len i k)) (let none : n - i ≡ 0 = omega (arith, past) in none)
