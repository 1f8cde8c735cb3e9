-- Lists made from the elements of another list, each with its index.
use Rattle.std.proofs.Common.{◌≡◌, ℕ, ◌+◌, ◌<◌, ◌≤◌, zero, suc, List, [], ◌∷◌, length, get_or, map, refl, ap, ap₂, sym, ◌∙◌, arith}
use Rattle.std.specs.List.{enumerate_from}

pub length-numbered : {X Y : Type 0} (f : ℕ × X → Y) (n : ℕ) (xs : List X) → length (map f (enumerate_from n xs)) ≡ length xs
length-numbered f n [] = refl
length-numbered f n (x ∷ xs) = ap suc (length-numbered f (n + 1) xs)

-- the element at an index is made from that index and the element there
pub numbered_at : {X Y : Type 0} (f : ℕ × X → Y) (n : ℕ) (xs : List X) (i : ℕ) (d : X) (e : Y) → i < length xs → get_or (map f (enumerate_from n xs)) i e ≡ f (n + i, get_or xs i d)
numbered_at f n [] i d e inside = absurd (omega arith)
numbered_at f n (x ∷ xs) zero d e inside = let place : n ≡ n + 0 = omega arith in ap (λ j. f (j, x)) place
numbered_at f n (x ∷ xs) (suc i) d e inside =
    let place : n + 1 + i ≡ n + suc i = omega arith in
    numbered_at f (n + 1) xs i d e (omega arith) ∙ ap (λ j. f (j, get_or xs i d)) place

-- at an index past the end of the list, the default is returned
pub numbered_past : {X Y : Type 0} (f : ℕ × X → Y) (n : ℕ) (xs : List X) (i : ℕ) (e : Y) → length xs ≤ i → get_or (map f (enumerate_from n xs)) i e ≡ e
numbered_past f n [] i e past = refl
numbered_past f n (x ∷ xs) zero e past = absurd (omega arith)
numbered_past f n (x ∷ xs) (suc i) e past = numbered_past f (n + 1) xs i e (omega arith)

-- if g (f (i, x)) is h x for every index i, mapping f over the numbered elements and then g is mapping h over the elements
pub map-numbered : {X Y Z : Type 0} (g : Y → Z) (f : ℕ × X → Y) (h : X → Z) (n : ℕ) (xs : List X) → ((i : ℕ) (x : X) → g (f (i, x)) ≡ h x) → map g (map f (enumerate_from n xs)) ≡ map h xs
map-numbered g f h n [] forgets = refl
map-numbered g f h n (x ∷ xs) forgets = ap₂ (λ y ys. y ∷ ys) (forgets n x) (map-numbered g f h (n + 1) xs forgets)

-- if no element changes, the list does not
pub numbered_same : {X : Type 0} (f : ℕ × X → X) (n : ℕ) (xs : List X) (d : X) → ((i : ℕ) → i < length xs → f (n + i, get_or xs i d) ≡ get_or xs i d) → map f (enumerate_from n xs) ≡ xs
numbered_same f n [] d stays = refl
numbered_same {X} f n (x ∷ xs) d stays =
    let place : n + 0 ≡ n = omega arith in
    let first : f (n, x) ≡ x = ap (λ (j : ℕ). f (j, x)) (sym place) ∙ stays 0 (omega arith) in
    ap₂ (λ (y : X) (ys : List X). y ∷ ys) first
    (numbered_same f (n + 1) xs d (λ i inside.
    let later : n + 1 + i ≡ n + suc i = omega arith in
    ap (λ (j : ℕ). f (j, get_or xs i d)) later ∙ stays (suc i) (omega arith)))

-- ---- lists made without the indices

pub map-twice : {X Y Z : Type 0} (g : Y → Z) (f : X → Y) (xs : List X) → map g (map f xs) ≡ map (λ x. g (f x)) xs
map-twice g f [] = refl
map-twice g f (x ∷ xs) = ap (λ zs. g (f x) ∷ zs) (map-twice g f xs)

pub changed_at : {X Y : Type 0} (f : X → Y) (xs : List X) (i : ℕ) (d : X) (e : Y) → i < length xs → get_or (map f xs) i e ≡ f (get_or xs i d)
changed_at f [] i d e inside = absurd (omega arith)
changed_at f (x ∷ xs) zero d e inside = refl
changed_at f (x ∷ xs) (suc i) d e inside = changed_at f xs i d e (omega arith)
