-- Lists of JSON values that loops make.
use Rattle.std.proofs.Common.{◌≡◌, ◌<◌, ◌≤◌, ◌+◌, ℕ, List, [], ◌∷◌, ◌++◌, length, get_or, take, map, flat_map, sym, ap, ◌∙◌, append_assoc}
use Rattle.std.specs.Prelude.{Result, Ok, Err, IfOk, IsOkAnd}
use Rattle.std.specs.List.{enumerate_from}
use Rattle.std.specs.declared.alloc.AllocError.{AllocError}
use Rattle.std.proofs.lemmas.List.{map_push, map_more, append-nil, at_drop_more, at_drop_all}
use Rattle.serde_json.specs.Data.{Data}
use Rattle.serde_json.specs.View.{view}
use Rattle.serde_json.specs.declared.value.Value.{Value}
use Rattle.report.proofs.Rows.{rest_of}
use Rattle.report.proofs.ShareSums.{rest_given, given_all}

-- the values for the elements before an index, and the data of the remaining elements
abbrev pub with_rest : {X : Type 0} → (ℕ × X → Data) → List X → ℕ → List Value → List Data
with_rest f xs i values = map view values ++ rest_given f xs i

-- the values after one more element
pub value_more : {X : Type 0} (f : ℕ × X → Data) (xs : List X) (i : ℕ) (d x : X) (values longer : List Value) (value : Result Value AllocError) (all : List Data)
    → i < length xs → x ≡ get_or xs i d → IsOkAnd value (λ v. map view longer ≡ map view values ++ view v ∷ []) → IfOk value (λ v. view v ≡ f (i, x))
    → with_rest f xs i values ≡ all → with_rest f xs (i + 1) longer ≡ all
value_more {X} f xs i d x values longer (Err e) all inside here pushed value_is prefix_is = absurd pushed
value_more {X} f xs i d x values longer (Ok v) all inside here pushed value_is prefix_is =
    let longer_view : map view longer ≡ map view values ++ f (i, x) ∷ [] = pushed ∙ ap (λ (e : Data). map view values ++ e ∷ []) value_is in
    let turn : rest_given f xs i ≡ f (i, x) ∷ rest_given f xs (i + 1) =
    at_drop_more (λ (ys : List X). map f (enumerate_from i ys)) xs i d inside ∙ ap (λ (y : X). f (i, y) ∷ rest_given f xs (i + 1)) (sym here) in
    ap (λ (ds : List Data). ds ++ rest_given f xs (i + 1)) longer_view
    ∙ (append_assoc (map view values) (f (i, x) ∷ []) (rest_given f xs (i + 1)) ∙ (sym (ap (λ (ds : List Data). map view values ++ ds) turn) ∙ prefix_is))

-- the values of the elements before an index, after one more element
pub mapped_more : {X Y : Type 0} (f : Y → Data) (g : X → Y) (xs : List X) (i : ℕ) (x : X) (values longer : List Value) (value : Result Value AllocError)
    → i < length xs → x ≡ get_or xs i x → IsOkAnd value (λ v. map view longer ≡ map view values ++ view v ∷ []) → IfOk value (λ v. view v ≡ f (g x))
    → map view values ≡ map f (map g (take i xs)) → map view longer ≡ map f (map g (take (i + 1) xs))
mapped_more f g xs i x values longer (Err e) inside here pushed value_is prefix_is = absurd pushed
mapped_more {X} {Y} f g xs i x values longer (Ok v) inside here pushed value_is prefix_is =
    let turn : map f (map g (take (i + 1) xs)) ≡ map f (map g (take i xs)) ++ f (g x) ∷ [] =
    ap (map f) (map_more g xs i x inside ∙ ap (λ (y : X). map g (take i xs) ++ g y ∷ []) (sym here)) ∙ map_push f (map g (take i xs)) (g x) in
    pushed ∙ (ap (λ (e : Data). map view values ++ e ∷ []) value_is ∙ (ap (λ (ds : List Data). ds ++ f (g x) ∷ []) prefix_is ∙ sym turn))

-- the values after the last element
pub values_all : {X : Type 0} (f : ℕ × X → Data) (xs : List X) (i : ℕ) (values : List Value) (all : List Data) → length xs ≤ i → with_rest f xs i values ≡ all → map view values ≡ all
values_all {X} f xs i values all past prefix_is = given_all f xs i (map view values) all past prefix_is

-- the values of elements that may give none, and the data of the remaining elements
abbrev pub with_rest_of : {X : Type 0} → (ℕ × X → List Data) → List X → ℕ → List Value → List Data
with_rest_of f xs i values = map view values ++ rest_of f xs i

-- those values after the last element
pub parts_all : {X : Type 0} (f : ℕ × X → List Data) (xs : List X) (i : ℕ) (values : List Value) (all : List Data) → length xs ≤ i → with_rest_of f xs i values ≡ all → map view values ≡ all
parts_all {X} f xs i values all past prefix_is =
    sym (append-nil (map view values)) ∙ (sym (ap (λ (ds : List Data). map view values ++ ds) (at_drop_all (λ (ys : List X). flat_map f (enumerate_from i ys)) xs i past)) ∙ prefix_is)
