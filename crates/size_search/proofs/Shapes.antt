-- The properties of a plan that do not depend on its cores and queues, so that the plan's shape has them too.
use Rattle.std.proofs.Common.{◌≡◌, ℕ, ◌+◌, ◌*◌, zero, suc, Bool, cond, ◌&&◌, List, [], ◌∷◌, ◌++◌, length, get_or, map, flat_map, sum_by, Option, Some, None, refl, ap, ap₂, ◌∙◌}
use Rattle.std.specs.Prelude.{◌==◌}
use Rattle.std.specs.List.{enumerate_from, list_all}
use Rattle.support.proofs.Sums.{sum_by-map}
use Rattle.job_bodies.specs.Plan.{Pool, Plan, no_pool, pool_at, needs_no_bound}
use Rattle.weights.specs.declared.get_return.GetReturn.{GetReturn}
use Rattle.weights.specs.declared.get_return.GetReturn.TheVariants.{DoneWeight, NoWeight}
use Rattle.weights.specs.declared.bound.Bound.{Bound}
use Rattle.weights.specs.declared.bound.Bound.TheVariants.{Standing, Lifetime}
use Rattle.weights.specs.declared.row.Rule.TheVariants.{S1, L1, L2}
use Rattle.weights.specs.declared.row.Place.TheVariants as place
use Rattle.weights.specs.declared.row.Row.{Row}
use Rattle.weights.specs.Row.{row}
use Rattle.weights.specs.Vector.{Vector, workers_weight, class_weights, queued_weight, client_weight, vector_fits, total}
use Rattle.weights.specs.Rows.{rows, classes_of}
use Rattle.weights.specs.Bound.{bound_vector}
use Rattle.weights.specs.Blocked.{counted_rows}
use Rattle.weights.specs.Ranks.{Ranks, ranks_fit, is_counted}
use Rattle.cert_text.specs.Cert.{PoolCert, Cert, bound_fits, pool_cert_fits, cert_fits}
use Rattle.size_search.specs.Fitted.{shape}

-- ---- lists

-- two functions that agree on every value map a list to the same list
pub map-agree : {X Y : Type 0} (f g : X → Y) (xs : List X) → ((x : X) → f x ≡ g x) → map f xs ≡ map g xs
map-agree f g [] same = refl
map-agree f g (x ∷ xs) same = ap₂ (λ y ys. y ∷ ys) (same x) (map-agree f g xs same)

-- two tests that agree on every value pass on the same lists
pub list_all-agree : {X : Type 0} (f g : X → Bool) (xs : List X) → ((x : X) → f x ≡ g x) → list_all f xs ≡ list_all g xs
list_all-agree f g [] same = refl
list_all-agree f g (x ∷ xs) same = ap₂ (λ a b. a && b) (same x) (list_all-agree f g xs same)

-- a map does not change the length of a list
pub length-changed : {X Y : Type 0} (f : X → Y) (xs : List X) → length (map f xs) ≡ length xs
length-changed f [] = refl
length-changed f (x ∷ xs) = ap suc (length-changed f xs)

-- a map that uses only the indices does not depend on the elements
numbers-map : {X Y Z : Type 0} (f : ℕ → Z) (g : X → Y) (n : ℕ) (xs : List X) → map (λ (entry : ℕ × Y). f entry.0) (enumerate_from n (map g xs)) ≡ map (λ (entry : ℕ × X). f entry.0) (enumerate_from n xs)
numbers-map f g n [] = refl
numbers-map f g n (x ∷ xs) = ap (λ ys. f n ∷ ys) (numbers-map f g (n + 1) xs)

-- a sum over the numbered elements of a mapped list is a sum over the numbered elements of the list itself
pub sum_by-changed : {X Y : Type 0} (f : ℕ × Y → ℕ) (g : X → Y) (n : ℕ) (xs : List X) → sum_by f (enumerate_from n (map g xs)) ≡ sum_by (λ (entry : ℕ × X). f (entry.0, g entry.1)) (enumerate_from n xs)
sum_by-changed f g n xs = ap (sum_by f) (enumerated-map g n xs) ∙ sum_by-map f (λ entry. (entry.0, g entry.1)) (enumerate_from n xs)
  where
    enumerated-map : {X Y : Type 0} (g : X → Y) (n : ℕ) (xs : List X) → enumerate_from n (map g xs) ≡ map (λ (entry : ℕ × X). (entry.0, g entry.1)) (enumerate_from n xs)
    enumerated-map g n [] = refl
    enumerated-map g n (x ∷ xs) = ap (λ ys. (n, g x) ∷ ys) (enumerated-map g (n + 1) xs)

-- ---- pools

-- the pool without its core and its queue
abbrev pub bare : Pool → Pool
bare pool = record pool { core = 0; queue = 0 }

-- the element at an index of a mapped list is the mapped element at this index
pub get_or-changed : {X Y : Type 0} (f : X → Y) (xs : List X) (i : ℕ) (d : X) → get_or (map f xs) i (f d) ≡ f (get_or xs i d)
get_or-changed f [] i d = refl
get_or-changed f (x ∷ xs) zero d = refl
get_or-changed f (x ∷ xs) (suc i) d = get_or-changed f xs i d

pub pool_at-shape : (plan : Plan) (p : ℕ) → pool_at (shape plan) p ≡ bare (pool_at plan p)
pool_at-shape plan p = get_or-changed bare plan.pools p no_pool

pub length-shape : (plan : Plan) → length (shape plan).pools ≡ length plan.pools
length-shape plan = length-changed bare plan.pools

-- ---- totals

pub total-shape : (plan : Plan) (v : Vector) → total (shape plan) v ≡ total plan v
total-shape plan v = ap (λ n. sum_by (λ entry. entry.1.count * client_weight v entry.0 0) (enumerate_from 0 plan.clients) + n) (sum_by-changed (λ (entry : ℕ × Pool). workers_weight v entry.0 * entry.1.max) bare 0 plan.pools)

-- ---- rows

pub rows-shape : (get_return : GetReturn) (plan : Plan) (v : Vector) → rows get_return (shape plan) v ≡ rows get_return plan v
rows-shape DoneWeight plan v = refl
rows-shape NoWeight plan v = refl

-- ---- the bound of a pool, without the total

-- the rows S1, one for each class of pool p
abbrev pub queued_rows : Plan → ℕ → Vector → List Row
queued_rows plan p v = map (λ entry. row S1 (place.Class entry.0) 1 (queued_weight v entry.0)) (classes_of plan p)

-- the rows L1, one for each pool, and the rows of bodies of a lifetime vector
abbrev pub lifetime_body : Plan → Vector → List Row
lifetime_body plan v = map (λ entry. row L1 (place.Worker entry.0) (workers_weight v entry.0) 0) (enumerate_from 0 plan.pools) ++ rows NoWeight plan v

-- the rows L2, one for each weight of each class of pool p
abbrev pub done_rows : Plan → ℕ → Vector → List Row
done_rows plan p v = flat_map (λ entry. map (λ weight. row L2 (place.Class entry.0) 1 weight) (class_weights v entry.0)) (classes_of plan p)

-- the rows of a bound, without the total; if the queue is unbounded, also without S1 and L2
abbrev pub bound_body : Plan → ℕ → Bound → List Row
bound_body plan p (Standing v) = rows DoneWeight plan v ++ cond (pool_at plan p).unbounded [] (queued_rows plan p v)
bound_body plan p (Lifetime v) = lifetime_body plan v ++ cond (pool_at plan p).unbounded [] (done_rows plan p v)

pub bound_body-shape : (plan : Plan) (p : ℕ) (bound : Bound) → bound_body (shape plan) p bound ≡ bound_body plan p bound
bound_body-shape plan p (Standing v) =
    ap (λ (unbounded : Bool). rows DoneWeight plan v ++ cond unbounded [] (queued_rows plan p v)) (ap (λ (pool : Pool). pool.unbounded) (pool_at-shape plan p))
bound_body-shape plan p (Lifetime v) =
    ap₂
    (λ (workers : List Row) (unbounded : Bool). workers ++ rows NoWeight plan v ++ cond unbounded [] (done_rows plan p v))
    (numbers-map (λ q. row L1 (place.Worker q) (workers_weight v q) 0) bare 0 plan.pools)
    (ap (λ (pool : Pool). pool.unbounded) (pool_at-shape plan p))

-- the rows of a pool's bound, without the total; there are none if the pool has no bound
abbrev pub optional_body : Plan → ℕ → Option Bound → List Row
optional_body plan p None = []
optional_body plan p (Some bound) = bound_body plan p bound

pub optional_body-shape : (plan : Plan) (p : ℕ) (bound : Option Bound) → optional_body (shape plan) p bound ≡ optional_body plan p bound
optional_body-shape plan p None = refl
optional_body-shape plan p (Some bound) = bound_body-shape plan p bound

-- the total of a bound; 0 if there is no bound
abbrev pub total_of : Plan → Option Bound → ℕ
total_of plan None = 0
total_of plan (Some bound) = total plan (bound_vector bound)

-- ---- the bound of a pool's blocked jobs, without the total

abbrev pub blocked_body : Plan → Ranks → ℕ → Vector → List Row
blocked_body plan ranks p v = rows DoneWeight plan v ++ flat_map (λ entry. counted_rows (is_counted plan ranks) v entry.0 entry.1) (classes_of plan p)

pub blocked_body-shape : (plan : Plan) (ranks : Ranks) (p : ℕ) (v : Vector) → blocked_body (shape plan) ranks p v ≡ blocked_body plan ranks p v
blocked_body-shape plan ranks p v = refl

-- ---- fitting a plan

vector_fits-pools : (plan : Plan) (pools : List Pool) (v : Vector) → length pools ≡ length plan.pools → vector_fits (record plan { pools = pools }) v ≡ vector_fits plan v
vector_fits-pools plan pools v as_many = rw as_many refl

-- whether a bound fits pool p depends on the number of pools, and on whether pool p needs a bound
bound_fits-pools : (plan : Plan) (pools : List Pool) (p : ℕ) (bound : Option Bound) → length pools ≡ length plan.pools → needs_no_bound (get_or pools p no_pool) ≡ needs_no_bound (pool_at plan p)
    → bound_fits (record plan { pools = pools }) p bound ≡ bound_fits plan p bound
bound_fits-pools plan pools p None as_many same = same
bound_fits-pools plan pools p (Some bound) as_many same = vector_fits-pools plan pools (bound_vector bound) as_many

-- whether a certificate fits a plan depends on the number of its pools, on which of them need a bound, and on no other property of them
pub cert_fits-pools : (plan : Plan) (pools : List Pool) (cert : Cert) → length pools ≡ length plan.pools → ((p : ℕ) → needs_no_bound (get_or pools p no_pool) ≡ needs_no_bound (pool_at plan p))
    → cert_fits (record plan { pools = pools }) cert ≡ cert_fits plan cert
cert_fits-pools plan pools cert as_many same =
    let other = record plan { pools = pools } in
    let part_fits = λ (entry : ℕ × PoolCert).
    ap₂ (λ (a b : Bool). a && b) (bound_fits-pools plan pools entry.0 entry.1.bound as_many (same entry.0)) (vector_fits-pools plan pools entry.1.blocked as_many) in
    ap (λ (all : Bool). length cert.pools == length pools && ranks_fit other cert.ranks && all)
    (list_all-agree (λ (entry : ℕ × PoolCert). pool_cert_fits other entry.0 entry.1) (λ (entry : ℕ × PoolCert). pool_cert_fits plan entry.0 entry.1) (enumerate_from 0 cert.pools) part_fits)
    ∙ rw as_many refl

pub cert_fits-shape : (plan : Plan) (cert : Cert) → cert_fits (shape plan) cert ≡ cert_fits plan cert
cert_fits-shape plan cert = cert_fits-pools plan (shape plan).pools cert (length-shape plan) (λ p. ap needs_no_bound (pool_at-shape plan p))
