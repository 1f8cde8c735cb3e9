-- Lemmas about the indices of names in a list, and about the slots of a body.
use Rattle.std.proofs.Common.{◌≡◌, ℕ, ◌+◌, ◌≤◌, ◌++◌, Bool, true, false, not, cond, ltb, List, [], ◌∷◌, length, map, Option, Some, None, Bor, refl, ap, arith}
use Rattle.std.specs.Prelude.{position}
use Rattle.std.specs.List.{position_or_len}
use Rattle.std.specs.Map.{lookup}
use Rattle.std.specs.Option.{unwrap_or}
use Rattle.std.specs.Str.{bytes_eq}
use Rattle.std.proofs.lemmas.Bool.{ltb-false}
use Rattle.std.proofs.lemmas.List.{length-map, map_push}
use Rattle.std.proofs.lemmas.List.Sums.{prefix_len-le-length}

-- the index of the first element whose image passes a test is the index of the first image that passes; if no image passes, both are the
-- length of the list
position_or_len_of_map : {X Y : Type 0} (test : Y → Bool) (f : X → Y) (xs : List X) → position_or_len (λ x. test (f x)) xs ≡ position_or_len test (map f xs)
position_or_len_of_map test f [] = refl
position_or_len_of_map test f (x ∷ xs) = ap (λ (n : ℕ). cond (not (test (f x))) (1 + n) 0) (position_or_len_of_map test f xs)

-- `position` finds the first element whose image passes a test at the same index as the first image that passes
pub position_of_map : {X Y : Type 0} (test : Y → Bool) (f : X → Y) (xs : List X) → position (λ x. test (f x)) xs ≡ position test (map f xs)
position_of_map test f xs = rw (position_or_len_of_map test f xs, length-map) refl

chosen_or : (b : Bool) (n d : ℕ) → (b ≡ false → d ≡ n) → unwrap_or (cond b (Some n) None) d ≡ n
chosen_or true n d other = refl
chosen_or false n d other = other refl

-- `position_or_len` is the result of `position`, or the length of the list if that is None
pub place_or_len : {X : Type 0} (test : X → Bool) (xs : List X) → unwrap_or (position test xs) (length xs) ≡ position_or_len test xs
place_or_len test xs =
    chosen_or (ltb (position_or_len test xs) (length xs)) (position_or_len test xs) (length xs) (λ none.
    let past : length xs ≤ position_or_len test xs = ltb-false _ _ none in
    omega (arith, prefix_len-le-length (λ x. not (test x)) xs))

-- the position of a slot is the same in the map of the code and in the map that specifications see
pub slot_in_entries : (slot : List ℕ) (entries : List (Bor (List ℕ) × ℕ)) → lookup (λ (name : Bor (List ℕ)). bytes_eq slot name.now) entries ≡ lookup (bytes_eq slot) (map (λ e. (e.0.now, e.1)) entries)
slot_in_entries slot [] = refl
slot_in_entries slot (e ∷ es) = ap (λ (found : Option ℕ). cond (bytes_eq slot e.0.now) (Some e.1) found) (slot_in_entries slot es)

-- the names that specifications see, after a name was added if it was new
pub names_after : (name : Bor (List ℕ)) (names : List (Bor (List ℕ))) (there : Bool)
    → map (λ (n : Bor (List ℕ)). n.now) (cond there names (names ++ name ∷ [])) ≡ cond (not there) (map (λ n. n.now) names ++ name.now ∷ []) (map (λ n. n.now) names)
names_after name names true = refl
names_after name names false = map_push (λ (n : Bor (List ℕ)). n.now) names name
