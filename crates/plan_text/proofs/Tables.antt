-- Lemmas about the tables and arrays of `toml`, as the views of its values show them.
use Rattle.std.proofs.Common.{◌≡◌, ℕ, List, [], ◌∷◌, map, String, Bor, Global, string_bytes, refl, ap}
use Rattle.std.specs.List.{list_any, list_all}
use Rattle.std.specs.Map.{keys_of}
use Rattle.std.specs.Str.{bytes_eq}
use Rattle.toml.specs.Data.{Data}
use Rattle.toml.specs.View.{items_of, members_view}
use Rattle.toml.specs.declared.value.Value.{Value}
use Rattle.job_bodies.proofs.Loops.{list_any_of_map}
use Rattle.plan_text.specs.Document.{has_only, elements}

-- the elements of the items that were built from a list are that list
pub elements-items_of : (values : List Data) → elements (items_of values) ≡ values
elements-items_of [] = refl
elements-items_of (value ∷ values) = ap (λ (rest : List Data). value ∷ rest) (elements-items_of values)

-- every key of a table is one of the known keys exactly when its members have only these keys
pub has_only_of_keys : (known : List (Bor (List ℕ))) (entries : List (String Global × Value))
    → list_all (λ key. list_any (λ k. bytes_eq k.now (string_bytes key)) known) (keys_of entries) ≡ has_only (map (λ k. k.now) known) (members_view entries)
has_only_of_keys known [] = refl
has_only_of_keys known (e ∷ es) =
    let one = list_any_of_map (λ k. bytes_eq k (string_bytes e.0)) (λ (k : Bor (List ℕ)). k.now) known in
    rw (one, has_only_of_keys known es) refl
