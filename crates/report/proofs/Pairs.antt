-- Texts of two lists, pair by pair.
use Rattle.std.proofs.Common.{◌≡◌, ◌<◌, ◌+◌, ℕ, List, [], ◌∷◌, ◌++◌, length, get_or, take, flat_map, refl, sym, ap, subst, ◌∙◌, append_assoc, arith}
use Rattle.std.specs.Prelude.{zip, min}
use Rattle.std.proofs.lemmas.Grind.{flat_map-append}
use Rattle.std.proofs.lemmas.List.{take_more, take_all, append-nil, length-append}
use Rattle.std.proofs.lemmas.Slice.Zip.{get_or-zip, length-zip}

-- the contributions of the first n pairs
abbrev pub front_of : {X Y A : Type 0} → (X × Y → List A) → List X → List Y → ℕ → List A
front_of f xs ys n = flat_map f (take n (zip xs ys))

-- the text after one more pair
pub pair_more : {X Y A Z : Type 0} (f : X × Y → List A) (xs : List X) (ys : List Y) (dx : X) (dy : Y) (old text longer : List A) (processed : List Z) (z : Z) (x : X) (y : Y)
    → length processed < length xs → length processed < length ys → x ≡ get_or xs (length processed) dx → y ≡ get_or ys (length processed) dy
    → longer ≡ text ++ f (x, y) → text ≡ old ++ front_of f xs ys (length processed) → longer ≡ old ++ front_of f xs ys (length (processed ++ z ∷ []))
pair_more {X} {Y} {A} f xs ys dx dy old text longer processed z x y in_xs in_ys x_is y_is longer_is prefix_is =
    let n = length processed in
    let pair : get_or (zip xs ys) n (dx, dy) ≡ (x, y) = get_or-zip xs ys n (dx, dy) in_xs in_ys ∙ rw (x_is, y_is) refl in
    let within : n < length (zip xs ys) = rw (length-zip xs ys) (omega (arith, in_xs, in_ys)) in
    let front : take (n + 1) (zip xs ys) ≡ take n (zip xs ys) ++ (x, y) ∷ [] = take_more (zip xs ys) n (dx, dy) within ∙ ap (λ (p : X × Y). take n (zip xs ys) ++ p ∷ []) pair in
    let turn : front_of f xs ys (n + 1) ≡ front_of f xs ys n ++ f (x, y) =
    ap (flat_map f) front ∙ (flat_map-append f (take n (zip xs ys)) ((x, y) ∷ []) ∙ ap (λ (t : List A). front_of f xs ys n ++ t) (append-nil (f (x, y)))) in
    let next : longer ≡ old ++ front_of f xs ys (n + 1) =
    longer_is ∙ (ap (λ (t : List A). t ++ f (x, y)) prefix_is ∙ (append_assoc old (front_of f xs ys n) (f (x, y)) ∙ ap (λ (t : List A). old ++ t) (sym turn))) in
    subst (λ (m : ℕ). longer ≡ old ++ front_of f xs ys m) (sym (length-append processed (z ∷ []))) next

-- the text after the last pair
pub pair_all : {X Y A : Type 0} (f : X × Y → List A) (xs : List X) (ys : List Y) (old text : List A) (n : ℕ) → n ≡ min (length xs) (length ys) → text ≡ old ++ front_of f xs ys n → text ≡ old ++ flat_map f (zip xs ys)
pair_all {X} {Y} {A} f xs ys old text n all prefix_is =
    let everything : take n (zip xs ys) ≡ zip xs ys = take_all n (zip xs ys) (rw (length-zip xs ys) (omega (arith, all))) in
    prefix_is ∙ ap (λ (ps : List (X × Y)). old ++ flat_map f ps) everything
