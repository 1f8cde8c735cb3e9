-- The numbers of places of the bodies that were read so far.
use Rattle.std.proofs.Common.{◌≡◌, ◌<◌, ◌+◌, ℕ, List, [], ◌∷◌, ◌++◌, length, map, take, get_or, sym, ap, ◌∙◌}
use Rattle.std.proofs.lemmas.List.{map-append, map_more, take-map}
use Rattle.diagnostics.specs.declared.entry_places.BodyPlaces.{BodyPlaces}
use Rattle.diagnostics.specs.PlanPlaces.{action_counts}

-- the places of one more body
pub counts_more : {X : Type 0} (size : X → ℕ) (xs : List X) (i : ℕ) (x : X) (found : List BodyPlaces) (one : BodyPlaces) → i < length xs → x ≡ get_or xs i x
    → action_counts found ≡ take i (map size xs) → length one.actions.items ≡ size x → action_counts (found ++ one ∷ []) ≡ take (i + 1) (map size xs)
counts_more {X} size xs i x found one inside there so fits =
    let counted : action_counts (found ++ one ∷ []) ≡ action_counts found ++ length one.actions.items ∷ [] = map-append (λ (places : BodyPlaces). length places.actions.items) found (one ∷ []) in
    let longer : map size (take (i + 1) xs) ≡ map size (take i xs) ++ size x ∷ [] = map_more size xs i x inside ∙ ap (λ (y : X). map size (take i xs) ++ size y ∷ []) (sym there) in
    counted
    ∙ (ap (λ (counts : List ℕ). counts ++ length one.actions.items ∷ []) so
    ∙ (ap (λ (n : ℕ). take i (map size xs) ++ n ∷ []) fits
    ∙ (ap (λ (counts : List ℕ). counts ++ size x ∷ []) (take-map size i xs)
    ∙ (sym longer ∙ sym (take-map size (i + 1) xs)))))
