-- Lemmas about effective plans. An effective plan differs from its plan only in the sizes of pools with an unbounded queue.
use Rattle.std.proofs.Common.{◌≡◌, ◌<◌, ℕ, zero, suc, Bool, true, false, if◌then◌else◌, ◌&&◌, ◌||◌, ◌==◌, nat_lt, nat_le, le-leb, List, [], ◌∷◌, length, map, refl, sym, ap, subst, arith}
use Rattle.std.specs.List.{list_all, list_any}
use Rattle.std.proofs.lemmas.Bool.{and_parts, and_from, or_left}
use Rattle.std.proofs.lemmas.List.{length-map}
use Rattle.std.proofs.lemmas.Option.{slice_get_within, slice_get-get_or, get_or_from_slice_get}
use Rattle.job_bodies.specs.declared.limits.TheConstants.{MAX_SIZE, MAX_THREADS}
use Rattle.job_bodies.specs.Plan.{Pool, Plan, no_pool, pool_names, pool_at}
use Rattle.job_bodies.specs.WellFormed.{is_within, is_valid_name, is_valid_pool, is_valid_body, IsWellFormed}
use Rattle.job_bodies.proofs.Passing.{EachPlace, list_any_get}
use Rattle.plan_text.specs.EffectivePlan.{effective_pool, effective_plan}

-- ---- one pool
-- the sizes of the pool are those of its effective pool: if its queue is unbounded, its queue is the largest size, and its maximum is core
-- unless core threads may time out
abbrev pub HasEffectiveSizes : Pool → Type 0
HasEffectiveSizes pool = pool.unbounded ≡ true → (pool.core_timeout ≡ false → pool.max ≡ pool.core) × (pool.queue ≡ MAX_SIZE)

abbrev pub pool_with : List ℕ → ℕ → ℕ → ℕ → Bool → Bool → Bool → Bool → Pool
pool_with name core max queue prestart may_reject unbounded core_timeout =
    record { name = name; core = core; max = max; queue = queue; prestart = prestart; may_reject = may_reject; unbounded = unbounded; core_timeout = core_timeout }

effective_of : (name : List ℕ) (core max queue : ℕ) (prestart may_reject unbounded core_timeout : Bool)
    → let pool = pool_with name core max queue prestart may_reject unbounded core_timeout in
    HasEffectiveSizes pool → effective_pool pool ≡ pool
effective_of name core max queue prestart may_reject true true sizes = rw (sizes refl).1 refl
effective_of name core max queue prestart may_reject true false sizes =
    let same = sizes refl in
    rw (same.0 refl, same.1) refl
effective_of name core max queue prestart may_reject false core_timeout sizes = refl

-- a pool is its own effective pool if its sizes are those of its effective pool
pub effective_pool_is : (pool : Pool) → HasEffectiveSizes pool → effective_pool pool ≡ pool
effective_pool_is pool sizes = effective_of pool.name pool.core pool.max pool.queue pool.prestart pool.may_reject pool.unbounded pool.core_timeout sizes

-- if a pool is its own effective pool, its sizes are those of its effective pool
pub effective_sizes : (pool : Pool) → effective_pool pool ≡ pool → HasEffectiveSizes pool
effective_sizes pool same on =
    let max = rw on at (ap (λ (p : Pool). p.max) same) in
    let queue = rw on at (ap (λ (p : Pool). p.queue) same) in
    (λ off. sym (rw off at max), cc)

same_name_of : (name : List ℕ) (core max queue : ℕ) (prestart may_reject unbounded core_timeout : Bool)
    → (effective_pool (pool_with name core max queue prestart may_reject unbounded core_timeout)).name ≡ name
same_name_of name core max queue prestart may_reject true core_timeout = refl
same_name_of name core max queue prestart may_reject false core_timeout = refl

same_name : (pool : Pool) → (effective_pool pool).name ≡ pool.name
same_name pool = same_name_of pool.name pool.core pool.max pool.queue pool.prestart pool.may_reject pool.unbounded pool.core_timeout

-- the largest size is a valid queue of every pool
largest_queue : (may_reject : Bool) → is_within (if may_reject then 0 else 1) MAX_SIZE MAX_SIZE ≡ true
largest_queue true = refl
largest_queue false = refl

valid_pool_of : (name : List ℕ) (core max queue : ℕ) (prestart may_reject unbounded core_timeout : Bool)
    → let pool = pool_with name core max queue prestart may_reject unbounded core_timeout in
    is_valid_pool pool ≡ true → is_valid_pool (effective_pool pool) ≡ true
valid_pool_of name core max queue prestart may_reject false core_timeout valid = valid
valid_pool_of name core max queue prestart may_reject true true valid =
    let parts = and_parts (is_valid_name name) _ valid in
    let sizes = and_parts (is_within 1 MAX_SIZE core && (is_within core MAX_SIZE max || max == MAX_THREADS)) _ parts.1 in
    and_from _ _ parts.0 (and_from _ _ sizes.0 (largest_queue may_reject))
valid_pool_of name core max queue prestart may_reject true false valid =
    let parts = and_parts (is_valid_name name) _ valid in
    let sizes = and_parts (is_within 1 MAX_SIZE core && (is_within core MAX_SIZE max || false)) _ parts.1 in
    let of_core = (and_parts (is_within 1 MAX_SIZE core) _ sizes.0).0 in
    let least = and_from (nat_le core core) (nat_le core MAX_SIZE) (le-leb core core (omega arith)) (and_parts (nat_le 1 core) _ of_core).1 in
    and_from _ _ parts.0 (and_from _ _ (and_from _ _ of_core (or_left (is_within core MAX_SIZE core) false least)) (largest_queue may_reject))

valid_pool : (pool : Pool) → is_valid_pool pool ≡ true → is_valid_pool (effective_pool pool) ≡ true
valid_pool pool valid = valid_pool_of pool.name pool.core pool.max pool.queue pool.prestart pool.may_reject pool.unbounded pool.core_timeout valid

-- ---- all pools
map_stays : {X : Type 0} (f : X → X) (xs : List X) → EachPlace xs (λ i x. f x ≡ x) → map f xs ≡ xs
map_stays f [] each = refl
map_stays f (x ∷ xs) each = rw (each 0 x refl, map_stays f xs (λ i y e. each (suc i) y e)) refl

map_stayed : {X : Type 0} (f : X → X) (xs : List X) → map f xs ≡ xs → EachPlace xs (λ i x. f x ≡ x)
map_stayed f [] same i x e = absurd cc
map_stayed f (y ∷ ys) same zero x e =
    let here : y ≡ x = cc in
    let first : f y ≡ y = cc in
    subst (λ (z : _). f z ≡ z) here first
map_stayed f (y ∷ ys) same (suc i) x e =
    let rest : map f ys ≡ ys = cc in
    map_stayed f ys rest i x e

-- if each pool of a plan is its own effective pool, the plan is its own effective plan; the next lemma is the converse
pub effective_plan_is : (plan : Plan) → EachPlace plan.pools (λ i pool. effective_pool pool ≡ pool) → effective_plan plan ≡ plan
effective_plan_is plan each = ap (λ (pools : List Pool). record plan { pools = pools }) (map_stays effective_pool plan.pools each)

pub effective_pools : (plan : Plan) → effective_plan plan ≡ plan → EachPlace plan.pools (λ i pool. effective_pool pool ≡ pool)
effective_pools plan same = map_stayed effective_pool plan.pools (ap (λ (p : Plan). p.pools) same)

-- if the sizes of each pool are those of its effective pool, the plan is its own effective plan; the next lemma is the converse
pub effective_by_sizes : (plan : Plan) → ((p : ℕ) → p < length plan.pools → HasEffectiveSizes (pool_at plan p)) → effective_plan plan ≡ plan
effective_by_sizes plan sizes = effective_plan_is plan (λ i pool e.
    let here : pool_at plan i ≡ pool = get_or_from_slice_get plan.pools i pool no_pool e in
    effective_pool_is pool (subst (λ (q : Pool). HasEffectiveSizes q) here (sizes i (slice_get_within plan.pools i pool e))))

pub sizes_of_effective : (plan : Plan) → effective_plan plan ≡ plan → (p : ℕ) → p < length plan.pools → HasEffectiveSizes (pool_at plan p)
sizes_of_effective plan same p inside = effective_sizes (pool_at plan p) (effective_pools plan same p (pool_at plan p) (slice_get-get_or plan.pools p no_pool inside))

-- a plan in which no pool has an unbounded queue is its own effective plan
pub bounded_plan_is : (plan : Plan) → list_any (λ pool. pool.unbounded) plan.pools ≡ false → effective_plan plan ≡ plan
bounded_plan_is plan bounded = effective_plan_is plan (λ i pool e.
    let off = list_any_get (λ (pool : Pool). pool.unbounded) plan.pools bounded i pool e in
    effective_pool_is pool (λ on. absurd cc))

names_stay : (pools : List Pool) → map (λ pool. pool.name) (map effective_pool pools) ≡ map (λ pool. pool.name) pools
names_stay [] = refl
names_stay (pool ∷ pools) = rw (same_name pool, names_stay pools) refl

pub same_pool_names : (plan : Plan) → pool_names (effective_plan plan) ≡ pool_names plan
same_pool_names plan = names_stay plan.pools

all_valid : (pools : List Pool) → list_all is_valid_pool pools ≡ true → list_all is_valid_pool (map effective_pool pools) ≡ true
all_valid [] valid = refl
all_valid (pool ∷ pools) valid =
    let parts = and_parts (is_valid_pool pool) _ valid in
    and_from _ _ (valid_pool pool parts.0) (all_valid pools parts.1)

-- the effective plan of a well-formed plan is well-formed
pub effective_is_well_formed : (plan : Plan) → IsWellFormed plan → IsWellFormed (effective_plan plan)
effective_is_well_formed plan w = record {
  few_pools = rw (length-map plan.pools effective_pool) w.few_pools;
  few_classes = w.few_classes;
  few_clients = w.few_clients;
  pool_names = rw (names_stay plan.pools) w.pool_names;
  class_names = w.class_names;
  client_names = w.client_names;
  pools = all_valid plan.pools w.pools;
  classes = subst (λ (pools : ℕ). list_all (λ class. is_valid_name class.name && nat_lt class.pool pools && is_valid_body (length plan.classes) class.body) plan.classes ≡ true) (sym (length-map plan.pools effective_pool)) w.classes;
  clients = w.clients;
}
