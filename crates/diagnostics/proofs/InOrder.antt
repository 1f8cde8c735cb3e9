-- Lists that concatenate the results of a function for the elements of a list and their indices.
use Rattle.std.proofs.Common.{◌≡◌, ◌<◌, ◌+◌, ℕ, List, ◌++◌, length, get_or, drop, flat_map, sym, ap, subst, ◌∙◌, append_assoc}
use Rattle.std.specs.List.{enumerate_from}
use Rattle.std.proofs.lemmas.List.{at_drop_more}

-- the results for the elements from this index on, concatenated
abbrev pub rest_of : {X Y : Type 0} → (ℕ × X → List Y) → List X → ℕ → List Y
rest_of f xs i = flat_map f (enumerate_from i (drop i xs))

-- a prefix of all results is still a prefix when the results for the next element are appended to it
pub one_more : {X Y : Type 0} (f : ℕ × X → List Y) (xs : List X) (i : ℕ) (d : X) (front all : List Y) → i < length xs → front ++ rest_of f xs i ≡ all
    → (front ++ f (i, get_or xs i d)) ++ rest_of f xs (i + 1) ≡ all
one_more {X} {Y} f xs i d front all inside prefix_is =
    let turn : rest_of f xs i ≡ f (i, get_or xs i d) ++ rest_of f xs (i + 1) = at_drop_more (λ (ys : List X). flat_map f (enumerate_from i ys)) xs i d inside in
    append_assoc front (f (i, get_or xs i d)) (rest_of f xs (i + 1)) ∙ (sym (ap (λ (ys : List Y). front ++ ys) turn) ∙ prefix_is)

-- a prefix of all results is still a prefix when the results for the next element x are appended to it
pub one_more_read : {X Y : Type 0} (f : ℕ × X → List Y) (xs : List X) (i : ℕ) (x : X) (front all : List Y) → i < length xs → x ≡ get_or xs i x → front ++ rest_of f xs i ≡ all
    → (front ++ f (i, x)) ++ rest_of f xs (i + 1) ≡ all
one_more_read {X} {Y} f xs i x front all inside here prefix_is =
    subst (λ (y : X). (front ++ f (i, y)) ++ rest_of f xs (i + 1) ≡ all) (sym here) (one_more f xs i x front all inside prefix_is)
