-- Loops over the indices of a plan's pools.
use Rattle.std.proofs.Common.{◌≡◌, ◌≤◌, ◌<◌, ◌+◌, ℕ, Bool, true, false, ◌&&◌, List, [], ◌∷◌, ◌++◌, length, get_or, drop, map, refl, sym, ap, ◌∙◌, append_assoc}
use Rattle.std.specs.List.{list_all, enumerate_from}
use Rattle.std.proofs.lemmas.List.{at_drop_more, at_drop_all, append-nil}
use Rattle.job_bodies.specs.Plan.{Pool, no_pool}

-- the list of the pools from index i on begins with pool i
turn : {Y : Type 0} (F : List (ℕ × Pool) → Y) (pools : List Pool) (i : ℕ) → i < length pools → F (enumerate_from i (drop i pools)) ≡ F ((i, get_or pools i no_pool) ∷ enumerate_from (i + 1) (drop (i + 1) pools))
turn F pools i inside = at_drop_more (λ (ps : List Pool). F (enumerate_from i ps)) pools i no_pool inside

-- the pools from index i on pass the test
abbrev pub rest_passes : (ℕ → Bool) → List Pool → ℕ → Bool
rest_passes test pools i = list_all (λ entry. test entry.0) (enumerate_from i (drop i pools))

-- if pool i passes the test, the result for the pools from index i on is that for the pools after pool i
pub passes_more : (test : ℕ → Bool) (pools : List Pool) (i : ℕ) (all : Bool) → i < length pools → test i ≡ true → rest_passes test pools i ≡ all → rest_passes test pools (i + 1) ≡ all
passes_more test pools i all inside passes prior =
    sym (turn (list_all (λ entry. test entry.0)) pools i inside ∙ ap (λ (b : Bool). b && rest_passes test pools (i + 1)) passes) ∙ prior

-- if pool i fails the test, the result for the pools from index i on is false
pub fails_here : (test : ℕ → Bool) (pools : List Pool) (i : ℕ) (all : Bool) → i < length pools → test i ≡ false → rest_passes test pools i ≡ all → false ≡ all
fails_here test pools i all inside fails prior =
    sym (turn (list_all (λ entry. test entry.0)) pools i inside ∙ ap (λ (b : Bool). b && rest_passes test pools (i + 1)) fails) ∙ prior

-- the result for no remaining pools is true
pub passes_all : (test : ℕ → Bool) (pools : List Pool) (i : ℕ) (all : Bool) → length pools ≤ i → rest_passes test pools i ≡ all → true ≡ all
passes_all test pools i all past prior = sym (at_drop_all (λ (ps : List Pool). list_all (λ entry. test entry.0) (enumerate_from i ps)) pools i past) ∙ prior

-- moving pool i from the later pools to the earlier ones does not change the conjunction of both results
pub decides_more : (test : ℕ → Bool) (pools : List Pool) (i : ℕ) (prior all : Bool) → i < length pools → (prior && rest_passes test pools i) ≡ all
    → ((prior && test i) && rest_passes test pools (i + 1)) ≡ all
decides_more test pools i prior all inside before =
    and-assoc prior (test i) (rest_passes test pools (i + 1)) ∙ (sym (ap (λ (b : Bool). prior && b) (turn (list_all (λ entry. test entry.0)) pools i inside)) ∙ before)
  where
    and-assoc : (a b c : Bool) → ((a && b) && c) ≡ (a && (b && c))
    and-assoc true b c = refl
    and-assoc false b c = refl

-- after the last pool, the result for the earlier pools is the result for all pools
pub decides_all : (test : ℕ → Bool) (pools : List Pool) (i : ℕ) (prior all : Bool) → length pools ≤ i → (prior && rest_passes test pools i) ≡ all → prior ≡ all
decides_all test pools i prior all past before =
    sym (and-true prior) ∙ (sym (ap (λ (b : Bool). prior && b) (at_drop_all (λ (ps : List Pool). list_all (λ entry. test entry.0) (enumerate_from i ps)) pools i past)) ∙ before)
  where
    and-true : (a : Bool) → (a && true) ≡ a
    and-true true = refl
    and-true false = refl

-- the values of f at the pools from index i on
abbrev pub rest_of_results : {Y : Type 0} → (ℕ → Y) → List Pool → ℕ → List Y
rest_of_results f pools i = map (λ entry. f entry.0) (enumerate_from i (drop i pools))

-- the values so far, followed by the value at pool i and those at the later pools, are all values
pub results_more : {Y : Type 0} (f : ℕ → Y) (pools : List Pool) (i : ℕ) (front all : List Y) → i < length pools → front ++ rest_of_results f pools i ≡ all → (front ++ f i ∷ []) ++ rest_of_results f pools (i + 1) ≡ all
results_more {Y} f pools i front all inside prior =
    append_assoc front (f i ∷ []) (rest_of_results f pools (i + 1))
    ∙ (sym (ap (λ (ys : List Y). front ++ ys) (turn (map (λ entry. f entry.0)) pools i inside)) ∙ prior)

-- after the last pool, the list of values is complete
pub results_all : {Y : Type 0} (f : ℕ → Y) (pools : List Pool) (i : ℕ) (front all : List Y) → length pools ≤ i → front ++ rest_of_results f pools i ≡ all → front ≡ all
results_all {Y} f pools i front all past prior =
    sym (append-nil front) ∙ (sym (ap (λ (ys : List Y). front ++ ys) (at_drop_all (λ (ps : List Pool). map (λ entry. f entry.0) (enumerate_from i ps)) pools i past)) ∙ prior)
