-- Lemmas about loops that test or sum the elements of a list with their indices.
use Rattle.std.proofs.Common.{◌≡◌, ◌≤◌, ◌<◌, ◌+◌, ℕ, Bool, true, false, ◌&&◌, List, [], ◌∷◌, length, get_or, drop, map, refl, sym, ap, subst, ◌∙◌, arith}
use Rattle.std.specs.Prelude.{sum_by}
use Rattle.std.specs.List.{list_all, enumerate_from}
use Rattle.std.proofs.lemmas.List.{at_drop_more, at_drop_all}
use Rattle.std.proofs.lemmas.List.Sums.{sum_by-cons}

-- the elements from index i on are the one at i and those from i + 1 on
turn : {X Y : Type 0} (F : List (ℕ × X) → Y) (xs : List X) (i : ℕ) (x : X) → i < length xs → x ≡ get_or xs i x → F (enumerate_from i (drop i xs)) ≡ F ((i, x) ∷ enumerate_from (i + 1) (drop (i + 1) xs))
turn {X} F xs i x inside here =
    at_drop_more (λ (ys : List X). F (enumerate_from i ys)) xs i x inside
    ∙ ap (λ (y : X). F ((i, y) ∷ enumerate_from (i + 1) (drop (i + 1) xs))) (sym here)

-- if the element at i passes, the elements from i + 1 on all pass exactly when those from i on do
pub passes_more : {X : Type 0} (test : ℕ × X → Bool) (xs : List X) (i : ℕ) (x : X) (all : Bool) → i < length xs → x ≡ get_or xs i x → test (i, x) ≡ true
    → list_all test (enumerate_from i (drop i xs)) ≡ all → list_all test (enumerate_from (i + 1) (drop (i + 1) xs)) ≡ all
passes_more test xs i x all inside here passes prior =
    let one = turn (list_all test) xs i x inside here in
    sym (one ∙ ap (λ (b : Bool). b && list_all test (enumerate_from (i + 1) (drop (i + 1) xs))) passes) ∙ prior

-- if the element at i fails, not all elements from i on pass
pub fails_here : {X : Type 0} (test : ℕ × X → Bool) (xs : List X) (i : ℕ) (x : X) (all : Bool) → i < length xs → x ≡ get_or xs i x → test (i, x) ≡ false
    → list_all test (enumerate_from i (drop i xs)) ≡ all → false ≡ all
fails_here test xs i x all inside here fails prior =
    let one = turn (list_all test) xs i x inside here in
    sym (one ∙ ap (λ (b : Bool). b && list_all test (enumerate_from (i + 1) (drop (i + 1) xs))) fails) ∙ prior

-- after the last element no elements remain, so all remaining elements pass
pub passes_all : {X : Type 0} (test : ℕ × X → Bool) (xs : List X) (i : ℕ) (all : Bool) → length xs ≤ i → list_all test (enumerate_from i (drop i xs)) ≡ all → true ≡ all
passes_all {X} test xs i all past prior = sym (at_drop_all (λ (ys : List X). list_all test (enumerate_from i ys)) xs i past) ∙ prior

-- the images of the elements from i on all pass exactly when the image of the element at i passes and those of the elements from i + 1 on
-- all pass
pub images_turn : {X Y : Type 0} (test : Y → Bool) (view : X → Y) (xs : List X) (i : ℕ) (d : X) → i < length xs → list_all test (map view (drop i xs)) ≡ (test (view (get_or xs i d)) && list_all test (map view (drop (i + 1) xs)))
images_turn {X} test view xs i d inside = at_drop_more (λ (ys : List X). list_all test (map view ys)) xs i d inside

-- adding the term of one more element to the sum does not change the total of the sum and the remaining terms
pub sum_more : {X : Type 0} (f : ℕ × X → ℕ) (xs : List X) (i : ℕ) (x : X) (sum all : ℕ) → i < length xs → x ≡ get_or xs i x
    → sum + sum_by f (enumerate_from i (drop i xs)) ≡ all → sum + f (i, x) + sum_by f (enumerate_from (i + 1) (drop (i + 1) xs)) ≡ all
sum_more f xs i x sum all inside here prior =
    let one : sum_by f (enumerate_from i (drop i xs)) ≡ f (i, x) + sum_by f (enumerate_from (i + 1) (drop (i + 1) xs)) = turn (sum_by f) xs i x inside here ∙ sum_by-cons f (i, x) (enumerate_from (i + 1) (drop (i + 1) xs)) in
    omega arith

-- after the last element, the sum is the total
pub sum_all : {X : Type 0} (f : ℕ × X → ℕ) (xs : List X) (i sum all : ℕ) → length xs ≤ i → sum + sum_by f (enumerate_from i (drop i xs)) ≡ all → sum ≡ all
sum_all {X} f xs i sum all past prior =
    let none : sum_by f (enumerate_from i (drop i xs)) ≡ 0 = at_drop_all (λ (ys : List X). sum_by f (enumerate_from i ys)) xs i past in
    omega arith
