-- Loops over pools with their numbers.
use Rattle.std.proofs.Common.{◌≡◌, ◌≤◌, ◌<◌, ◌+◌, ℕ, Bool, true, false, cond, List, [], ◌∷◌, ◌++◌, length, get_or, drop, map, Option, Some, None, sym, ap, ◌∙◌, append_assoc}
use Rattle.std.specs.List.{enumerate_from}
use Rattle.std.specs.Option.{option_or}
use Rattle.std.proofs.lemmas.List.{at_drop_more, at_drop_all, append-nil}
use Rattle.job_bodies.specs.Plan.{Pool, Plan, no_pool}
use Rattle.cert_text.specs.Cert.{Cert, pool_cert_at}
use Rattle.size_search.specs.declared.fit_error.FitError.{FitError}
use Rattle.size_search.specs.declared.fit_error.FitError.TheVariants.{Queue}
use Rattle.size_search.specs.Fitted.{has_queue}
use Rattle.size_search.specs.FitError.{unfit_pool, first_unfit, first_tight, first_short}

-- the list of the pools from index i on begins with pool i
turn : {Y : Type 0} (F : List (ℕ × Pool) → Y) (pools : List Pool) (i : ℕ) → i < length pools → F (enumerate_from i (drop i pools)) ≡ F ((i, get_or pools i no_pool) ∷ enumerate_from (i + 1) (drop (i + 1) pools))
turn F pools i inside = at_drop_more (λ (ps : List Pool). F (enumerate_from i ps)) pools i no_pool inside

-- ---- pools made from the plan's pools

-- the results of `made` for the pools from index i on
abbrev pub rest_made : (ℕ × Pool → Pool) → List Pool → ℕ → List Pool
rest_made made pools i = map made (enumerate_from i (drop i pools))

-- after a loop appended the pool made from pool i, the pools made from index i + 1 on are still missing
pub made_more : (made : ℕ × Pool → Pool) (pools : List Pool) (i : ℕ) (front all : List Pool) → i < length pools → front ++ rest_made made pools i ≡ all
    → (front ++ made (i, get_or pools i no_pool) ∷ []) ++ rest_made made pools (i + 1) ≡ all
made_more made pools i front all inside prefix_is =
    append_assoc front (made (i, get_or pools i no_pool) ∷ []) (rest_made made pools (i + 1))
    ∙ (sym (ap (λ (ps : List Pool). front ++ ps) (turn (map made) pools i inside)) ∙ prefix_is)

-- after the last pool, the list of made pools is complete
pub made_all : (made : ℕ × Pool → Pool) (pools : List Pool) (i : ℕ) (front all : List Pool) → length pools ≤ i → front ++ rest_made made pools i ≡ all → front ≡ all
made_all made pools i front all past prefix_is =
    sym (append-nil front) ∙ (sym (ap (λ (ps : List Pool). front ++ ps) (at_drop_all (λ (ps : List Pool). map made (enumerate_from i ps)) pools i past)) ∙ prefix_is)

-- ---- the first unfit pool

-- the reason for the first unfit pool from index i on, or None
abbrev pub rest_unfit : List Pool → ℕ → Option FitError
rest_unfit pools i = first_unfit (enumerate_from i (drop i pools))

-- if pool i is not unfit, the result is that for the later pools
pub unfit_later : (pools : List Pool) (i : ℕ) (all : Option FitError) → i < length pools → unfit_pool i (get_or pools i no_pool) ≡ None → rest_unfit pools i ≡ all → rest_unfit pools (i + 1) ≡ all
unfit_later pools i all inside fits prefix_is =
    sym (turn first_unfit pools i inside ∙ ap (λ (here : Option FitError). option_or here (rest_unfit pools (i + 1))) fits) ∙ prefix_is

-- if pool i is unfit, the result is its reason
pub unfit_here : (pools : List Pool) (i : ℕ) (unfit : FitError) (all : Option FitError) → i < length pools → unfit_pool i (get_or pools i no_pool) ≡ Some unfit → rest_unfit pools i ≡ all → Some unfit ≡ all
unfit_here pools i unfit all inside found prefix_is =
    sym (turn first_unfit pools i inside ∙ ap (λ (here : Option FitError). option_or here (rest_unfit pools (i + 1))) found) ∙ prefix_is

-- after the last pool, the result is None
pub none_unfit : (pools : List Pool) (i : ℕ) (all : Option FitError) → length pools ≤ i → rest_unfit pools i ≡ all → None ≡ all
none_unfit pools i all past prefix_is = sym (at_drop_all (λ (ps : List Pool). first_unfit (enumerate_from i ps)) pools i past) ∙ prefix_is

-- ---- the first pool whose queue is too small

-- the reason for the first pool from index i on whose queue is smaller than its bound requires, or None
abbrev pub rest_tight : Plan → Cert → List Pool → ℕ → Option FitError
rest_tight plan cert pools i = first_tight plan cert (enumerate_from i (drop i pools))

-- if the queue of pool i is large enough, the result is that for the later pools
pub tight_later : (plan : Plan) (cert : Cert) (pools : List Pool) (i : ℕ) (all : Option FitError) → i < length pools → has_queue plan (pool_cert_at cert i).bound (get_or pools i no_pool) ≡ true → rest_tight plan cert pools i ≡ all
    → rest_tight plan cert pools (i + 1) ≡ all
tight_later plan cert pools i all inside enough prefix_is =
    sym (turn (first_tight plan cert) pools i inside ∙ ap (λ (b : Bool). cond b (rest_tight plan cert pools (i + 1)) (Some (Queue i))) enough) ∙ prefix_is

-- if the queue of pool i is too small, the result is its reason
pub tight_here : (plan : Plan) (cert : Cert) (pools : List Pool) (i : ℕ) (all : Option FitError) → i < length pools → has_queue plan (pool_cert_at cert i).bound (get_or pools i no_pool) ≡ false → rest_tight plan cert pools i ≡ all
    → Some (Queue i) ≡ all
tight_here plan cert pools i all inside tight prefix_is =
    sym (turn (first_tight plan cert) pools i inside ∙ ap (λ (b : Bool). cond b (rest_tight plan cert pools (i + 1)) (Some (Queue i))) tight) ∙ prefix_is

-- after the last pool, the result is None
pub none_tight : (plan : Plan) (cert : Cert) (pools : List Pool) (i : ℕ) (all : Option FitError) → length pools ≤ i → rest_tight plan cert pools i ≡ all → None ≡ all
none_tight plan cert pools i all past prefix_is = sym (at_drop_all (λ (ps : List Pool). first_tight plan cert (enumerate_from i ps)) pools i past) ∙ prefix_is

-- ---- the first pool with too few threads

-- the reason for the first pool from index i on that has too few threads, or None
abbrev pub rest_short : Plan → Cert → List Pool → ℕ → Option FitError
rest_short plan cert pools i = first_short plan cert (enumerate_from i (drop i pools))
