-- Lemmas about loops that check each element of a list.
use Rattle.std.proofs.Common.{take, ◌≡◌, ◌<◌, ◌+◌, ℕ, Bool, ◌||◌, List, [], ◌∷◌, map, length, get_or, drop, Result, refl, ap, ◌∙◌}
use Rattle.std.specs.List.{list_any}
use Rattle.std.proofs.lemmas.List.{at_drop_more, take-map}
use Rattle.support.specs.Reading.{◌>>=◌, check_each}

-- checking the elements from index i on is checking the one at i, and then those from i + 1 on
pub check_each_turn : {X F : Type 0} (check : ℕ → X → Result (Unit {0}) F) (i : ℕ) (xs : List X) (d : X) → i < length xs → check_each check i (drop i xs) ≡ (check i (get_or xs i d) >>= λ _. check_each check (i + 1) (drop (i + 1) xs))
check_each_turn check i xs d inside = at_drop_more (check_each check i) xs i d inside

-- some element of a mapped list passes a test exactly when the image of some element of the list does
pub list_any_of_map : {X Y : Type 0} (test : Y → Bool) (f : X → Y) (xs : List X) → list_any test (map f xs) ≡ list_any (λ x. test (f x)) xs
list_any_of_map test f [] = refl
list_any_of_map test f (x ∷ xs) = ap (λ b. test (f x) || b) (list_any_of_map test f xs)

-- one of the first n elements of a mapped list passes a test exactly when the image of one of the first n elements of the list does
pub list_any_of_names : {X Y : Type 0} (test : Y → Bool) (f : X → Y) (n : ℕ) (xs : List X) → list_any test (take n (map f xs)) ≡ list_any (λ x. test (f x)) (take n xs)
list_any_of_names test f n xs = ap (list_any test) (take-map f n xs) ∙ list_any_of_map test f (take n xs)
