-- Names are distinct exactly when each name differs from all names before it.
use Rattle.std.proofs.Common.{◌≡◌, ℕ, zero, suc, true, false, List, [], ◌∷◌, take, refl, sym, ◌∙◌}
use Rattle.std.specs.List.{list_any}
use Rattle.std.specs.Str.{bytes_eq}
use Rattle.std.proofs.lemmas.Bool.{and_parts, and_from, or_parts, or_from, not-true, not_from_false}
use Rattle.std.proofs.lemmas.Bool.Decides.{same_from_decides, Decides-like}
use Rattle.std.proofs.lemmas.Slice.Eq.{bytes_eq-Decides}
use Rattle.job_bodies.specs.WellFormed.{are_distinct}
use Rattle.job_bodies.proofs.Passing.{EachPlace, list_any_get, list_any_from}

bytes_eq_comm : (x y : List ℕ) → bytes_eq x y ≡ bytes_eq y x
bytes_eq_comm x y = same_from_decides (bytes_eq x y) (bytes_eq y x) (bytes_eq-Decides x y) (Decides-like (bytes_eq y x) sym sym (bytes_eq-Decides y x))

pub distinct_before : (names : List (List ℕ)) → are_distinct names ≡ true → EachPlace names (λ i name. list_any (bytes_eq name) (take i names) ≡ false)
distinct_before [] h i x e = cc
distinct_before (y ∷ names) h zero x e = refl
distinct_before (y ∷ names) h (suc i) x e =
    let p = and_parts _ _ h in
    let other : bytes_eq y x ≡ false = list_any_get (bytes_eq y) names (not-true _ p.0) i x e in
    or_from (bytes_eq x y) _ (bytes_eq_comm x y ∙ other) (distinct_before names p.1 i x e)

pub distinct_from : (names : List (List ℕ)) → EachPlace names (λ i name. list_any (bytes_eq name) (take i names) ≡ false) → are_distinct names ≡ true
distinct_from [] h = refl
distinct_from (y ∷ names) h =
    let later : list_any (bytes_eq y) names ≡ false = list_any_from (bytes_eq y) names (λ i x e. bytes_eq_comm y x ∙ (or_parts (bytes_eq x y) _ (h (suc i) x e)).0) in
    and_from _ _ (not_from_false _ later) (distinct_from names (λ i x e. (or_parts (bytes_eq x y) _ (h (suc i) x e)).1))
