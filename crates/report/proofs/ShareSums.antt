-- The shares in the total of a vector.
use Rattle.std.proofs.Common.{◌≡◌, ◌≤◌, ◌<◌, ◌+◌, ◌*◌, ℕ, List, [], ◌∷◌, ◌++◌, length, get_or, drop, map, sym, ap, ap₂, ◌∙◌, append_assoc}
use Rattle.std.specs.Prelude.{sum}
use Rattle.std.specs.List.{enumerate_from}
use Rattle.std.proofs.lemmas.List.{at_drop_more, at_drop_all, append-nil}
use Rattle.std.proofs.lemmas.List.Sums.{sum-map}
use Rattle.job_bodies.specs.Plan.{Plan}
use Rattle.weights.specs.Vector.{Vector, client_weight, workers_weight, total}
use Rattle.report.specs.Shares.{client_shares, worker_shares}

-- the values for the elements from this index on
abbrev pub rest_given : {X Y : Type 0} → (ℕ × X → Y) → List X → ℕ → List Y
rest_given f xs i = map f (enumerate_from i (drop i xs))

-- the values after one more element
pub given_more : {X Y : Type 0} (f : ℕ × X → Y) (xs : List X) (i : ℕ) (x : X) (front all : List Y) → i < length xs → x ≡ get_or xs i x → front ++ rest_given f xs i ≡ all → (front ++ f (i, x) ∷ []) ++ rest_given f xs (i + 1) ≡ all
given_more {X} {Y} f xs i x front all inside here prefix_is =
    let turn : rest_given f xs i ≡ f (i, x) ∷ rest_given f xs (i + 1) =
    at_drop_more (λ (ys : List X). map f (enumerate_from i ys)) xs i x inside
    ∙ ap (λ (y : X). f (i, y) ∷ rest_given f xs (i + 1)) (sym here) in
    append_assoc front (f (i, x) ∷ []) (rest_given f xs (i + 1)) ∙ (sym (ap (λ (ys : List Y). front ++ ys) turn) ∙ prefix_is)

-- the values after the last element
pub given_all : {X Y : Type 0} (f : ℕ × X → Y) (xs : List X) (i : ℕ) (front all : List Y) → length xs ≤ i → front ++ rest_given f xs i ≡ all → front ≡ all
given_all {X} {Y} f xs i front all past prefix_is =
    sym (append-nil front) ∙ (sym (ap (λ (ys : List Y). front ++ ys) (at_drop_all (λ (ys : List X). map f (enumerate_from i ys)) xs i past)) ∙ prefix_is)

-- the sum of the shares is the total
pub shares_sum : (plan : Plan) (v : Vector) → sum (client_shares plan v) + sum (worker_shares plan v) ≡ total plan v
shares_sum plan v =
    ap₂ (λ a b. a + b) (sum-map (λ entry. entry.1.count * client_weight v entry.0 0) (enumerate_from 0 plan.clients))
    (sum-map (λ entry. workers_weight v entry.0 * entry.1.max) (enumerate_from 0 plan.pools))
