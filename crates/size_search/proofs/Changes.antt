-- Well-formed plans with changed sizes.
use Rattle.std.proofs.Common.{◌≡◌, ℕ, ◌<◌, ◌≤◌, ◌⊎◌, inl, inr, suc, max, Bool, true, false, cond, eqb, ◌&&◌, ◌||◌, List, [], ◌∷◌, length, get_or, map, refl, ap, ap₂, sym, ◌∙◌, arith}
use Rattle.std.specs.Prelude.{nat_lt}
use Rattle.std.specs.List.{list_all}
use Rattle.std.proofs.lemmas.Bool.{and_parts, and_from, or_cases, or_left, or_right, eqb-true, le-leb, false≢true}
use Rattle.support.proofs.Members.{list_all_at_In, In-get_or}
use Rattle.job_bodies.specs.declared.limits.TheConstants.{MAX_SIZE, MAX_THREADS}
use Rattle.job_bodies.specs.Plan.{Pool, Class, Client, Plan, no_pool, pool_at}
use Rattle.job_bodies.proofs.Bodies.{within_bounds}
use Rattle.job_bodies.specs.WellFormed.{is_valid_name, is_within, least_queue, has_no_max, has_valid_sizes, is_valid_pool, is_valid_class, is_valid_client, is_valid_body, are_distinct, IsWellFormed}
use Rattle.size_search.specs.Fitted.{shape}
use Rattle.size_search.specs.Widened.{outline}
use Rattle.size_search.proofs.Shapes.{length-changed, list_all-agree, get_or-changed}
use Rattle.size_search.proofs.Numbered.{map-twice}

-- ---- the names of pools

-- the pool without its sizes
abbrev pub nameplate : Pool → Pool
nameplate pool = record pool { core = 0; max = 0; queue = 0 }

names-outline : (plan : Plan) → map (λ (pool : Pool). pool.name) (outline plan).pools ≡ map (λ (pool : Pool). pool.name) plan.pools
names-outline plan = map-twice (λ (pool : Pool). pool.name) nameplate plan.pools

pub length-outline : (plan : Plan) → length (outline plan).pools ≡ length plan.pools
length-outline plan = length-changed nameplate plan.pools

pub pool_at-outline : (plan : Plan) (p : ℕ) → pool_at (outline plan) p ≡ nameplate (pool_at plan p)
pool_at-outline plan p = get_or-changed nameplate plan.pools p no_pool

-- plans that differ only in sizes have the same core timeouts
pub same_timeout : (plan other : Plan) (p : ℕ) → outline other ≡ outline plan → (pool_at other p).core_timeout ≡ (pool_at plan p).core_timeout
same_timeout plan other p same =
    sym (ap (λ (pool : Pool). pool.core_timeout) (pool_at-outline other p))
    ∙ (ap (λ (any : Plan). (pool_at any p).core_timeout) same ∙ ap (λ (pool : Pool). pool.core_timeout) (pool_at-outline plan p))

-- ---- well-formed pools

-- the names of valid pools are valid
all_named : (pools : List Pool) → list_all is_valid_pool pools ≡ true → list_all is_valid_name (map (λ (pool : Pool). pool.name) pools) ≡ true
all_named [] all = refl
all_named (pool ∷ pools) all =
    let parts = and_parts (is_valid_pool pool) (list_all is_valid_pool pools) all in
    and_from (is_valid_name pool.name) (list_all is_valid_name (map (λ (x : Pool). x.name) pools)) (and_parts (is_valid_name pool.name) (has_valid_sizes pool) parts.0).0 (all_named pools parts.1)

-- pools with valid names and valid sizes are valid
all_valid : (pools : List Pool) → list_all is_valid_name (map (λ (pool : Pool). pool.name) pools) ≡ true → list_all has_valid_sizes pools ≡ true → list_all is_valid_pool pools ≡ true
all_valid [] named sized = refl
all_valid (pool ∷ pools) named sized =
    let names = and_parts (is_valid_name pool.name) (list_all is_valid_name (map (λ (x : Pool). x.name) pools)) named in
    let sizes = and_parts (has_valid_sizes pool) (list_all has_valid_sizes pools) sized in
    and_from (is_valid_pool pool) (list_all is_valid_pool pools) (and_from (is_valid_name pool.name) (has_valid_sizes pool) names.0 sizes.0) (all_valid pools names.1 sizes.1)

-- the sizes of valid pools are valid
pub all_sized : (pools : List Pool) → list_all is_valid_pool pools ≡ true → list_all has_valid_sizes pools ≡ true
all_sized [] all = refl
all_sized (pool ∷ pools) all =
    let parts = and_parts (is_valid_pool pool) (list_all is_valid_pool pools) all in
    and_from (has_valid_sizes pool) (list_all has_valid_sizes pools) (and_parts (is_valid_name pool.name) (has_valid_sizes pool) parts.0).1 (all_sized pools parts.1)

-- ---- the plan

-- a plan that differs from a well-formed plan only in sizes is well-formed if its sizes are valid
pub well_formed_changed : (plan other : Plan) → IsWellFormed plan → outline other ≡ outline plan → list_all has_valid_sizes other.pools ≡ true → IsWellFormed other
well_formed_changed plan other well same sized =
    let names : map (λ (pool : Pool). pool.name) other.pools ≡ map (λ (pool : Pool). pool.name) plan.pools =
    sym (names-outline other) ∙ (ap (λ (any : Plan). map (λ (pool : Pool). pool.name) any.pools) same ∙ names-outline plan) in
    let as_many : length other.pools ≡ length plan.pools = sym (length-outline other) ∙ (ap (λ (any : Plan). length any.pools) same ∙ length-outline plan) in
    let classes : other.classes ≡ plan.classes = ap (λ (any : Plan). any.classes) same in
    let clients : other.clients ≡ plan.clients = ap (λ (any : Plan). any.clients) same in
    record {
      few_pools = omega (arith, well.few_pools);
      few_classes = rw classes well.few_classes;
      few_clients = rw clients well.few_clients;
      pool_names = ap are_distinct names ∙ well.pool_names;
      class_names = ap (λ (xs : List Class). are_distinct (map (λ (class : Class). class.name) xs)) classes ∙ well.class_names;
      client_names = ap (λ (xs : List Client). are_distinct (map (λ (client : Client). client.name) xs)) clients ∙ well.client_names;
      pools = all_valid other.pools (ap (list_all is_valid_name) names ∙ all_named plan.pools well.pools) sized;
      classes = same_classes as_many classes ∙ well.classes;
      clients = same_clients classes clients ∙ well.clients;
    }
  where
    same_classes : length other.pools ≡ length plan.pools → other.classes ≡ plan.classes → list_all (is_valid_class other) other.classes ≡ list_all (is_valid_class plan) plan.classes
    same_classes as_many classes =
        list_all-agree (is_valid_class other) (is_valid_class plan) other.classes (λ class. ap₂ (λ (pools : ℕ) (all : List Class). is_valid_name class.name && nat_lt class.pool pools && is_valid_body (length all) class.body) as_many classes)
        ∙ ap (list_all (is_valid_class plan)) classes

    same_clients : other.classes ≡ plan.classes → other.clients ≡ plan.clients → list_all (is_valid_client other) other.clients ≡ list_all (is_valid_client plan) plan.clients
    same_clients classes clients =
        list_all-agree (is_valid_client other) (is_valid_client plan) other.clients (λ client. ap (λ (all : List Class). is_valid_name client.name && is_within 1 MAX_SIZE client.count && is_valid_body (length all) client.body) classes)
        ∙ ap (list_all (is_valid_client plan)) clients

-- plans of the same shape have the same outline
pub outline_of_shape : (plan other : Plan) → shape other ≡ shape plan → outline other ≡ outline plan
outline_of_shape plan other same = sym (outline-shape other) ∙ (ap outline same ∙ outline-shape plan)
  where
    outline-shape : (any : Plan) → outline (shape any) ≡ outline any
    outline-shape any = ap (λ (pools : List Pool). record any { pools = pools }) (map-twice nameplate (λ (pool : Pool). record pool { core = 0; queue = 0 }) any.pools)

-- ---- sizes

-- a capacity of at least 1 is large enough for every pool
pub at_least_queue : (pool : Pool) (queue : ℕ) → 1 ≤ queue → least_queue pool ≤ queue
at_least_queue pool queue some = of_key pool.may_reject
  where
    of_key : (may : Bool) → cond may 0 1 ≤ queue
    of_key true = omega arith
    of_key false = some

-- a capacity that is large enough for a pool is large enough for each pool with the same `may_reject`
pub least_queue_kept : (pool other : Pool) (queue : ℕ) → other.may_reject ≡ pool.may_reject → least_queue pool ≤ queue → least_queue other ≤ queue
least_queue_kept pool other queue same enough =
    let least : least_queue other ≡ least_queue pool = ap (λ (may : Bool). cond may 0 1) same in
    omega (arith, least, enough)

-- the maximum is within the limit, or is one for which the text of a plan gives no number
abbrev pub HasMax : Pool → Type 0
HasMax pool = (pool.max ≤ MAX_SIZE) ⊎ (has_no_max pool ≡ true)

-- the sizes of the pool are within their ranges
pub record HasSizes (pool : Pool) : Type 0 where
  pub core : 1 ≤ pool.core
  pub most_core : pool.core ≤ MAX_SIZE
  pub max : pool.core ≤ pool.max
  pub most_max : HasMax pool
  pub queue : least_queue pool ≤ pool.queue
  pub most_queue : pool.queue ≤ MAX_SIZE

no_max_is : (pool : Pool) → has_no_max pool ≡ true → (pool.core_timeout ≡ true) × (pool.max ≡ MAX_THREADS)
no_max_is pool none =
    let parts = and_parts (pool.core_timeout && pool.unbounded) (eqb pool.max MAX_THREADS) none in
    ((and_parts pool.core_timeout pool.unbounded parts.0).0, eqb-true pool.max MAX_THREADS parts.1)

pub has_sizes : (pool : Pool) → has_valid_sizes pool ≡ true → HasSizes pool
has_sizes pool valid =
    let parts = and_parts (is_within 1 MAX_SIZE pool.core && (is_within pool.core MAX_SIZE pool.max || has_no_max pool)) (is_within (least_queue pool) MAX_SIZE pool.queue) valid in
    let front = and_parts (is_within 1 MAX_SIZE pool.core) (is_within pool.core MAX_SIZE pool.max || has_no_max pool) parts.0 in
    let core = within_bounds 1 MAX_SIZE pool.core front.0 in
    let max = of_max core.1 (or_cases (is_within pool.core MAX_SIZE pool.max) (has_no_max pool) front.1) in
    record {
      core = core.0;
      most_core = core.1;
      max = max.0;
      most_max = max.1;
      queue = (within_bounds (least_queue pool) MAX_SIZE pool.queue parts.1).0;
      most_queue = (within_bounds (least_queue pool) MAX_SIZE pool.queue parts.1).1;
    }
  where
    of_max : pool.core ≤ MAX_SIZE → (is_within pool.core MAX_SIZE pool.max ≡ true) ⊎ (has_no_max pool ≡ true) → (pool.core ≤ pool.max) × HasMax pool
    of_max low (inl own) = let bounds = within_bounds pool.core MAX_SIZE pool.max own in (bounds.0, inl bounds.1)
    of_max low (inr none) = (omega (arith, low, (no_max_is pool none).1), inr none)

is_within_from : (low high n : ℕ) → low ≤ n → n ≤ high → is_within low high n ≡ true
is_within_from low high n above below = and_from _ _ (le-leb low n above) (le-leb n high below)

pub valid_from_sizes : (pool : Pool) → HasSizes pool → has_valid_sizes pool ≡ true
valid_from_sizes pool sizes =
    and_from (is_within 1 MAX_SIZE pool.core && (is_within pool.core MAX_SIZE pool.max || has_no_max pool)) (is_within (least_queue pool) MAX_SIZE pool.queue)
    (and_from (is_within 1 MAX_SIZE pool.core) (is_within pool.core MAX_SIZE pool.max || has_no_max pool) (is_within_from 1 MAX_SIZE pool.core sizes.core sizes.most_core) (of_max sizes.most_max))
    (is_within_from (least_queue pool) MAX_SIZE pool.queue sizes.queue sizes.most_queue)
  where
    of_max : HasMax pool → (is_within pool.core MAX_SIZE pool.max || has_no_max pool) ≡ true
    of_max (inl own) = or_left (is_within pool.core MAX_SIZE pool.max) (has_no_max pool) (is_within_from pool.core MAX_SIZE pool.max sizes.max own)
    of_max (inr none) = or_right (is_within pool.core MAX_SIZE pool.max) (has_no_max pool) none

-- a maximum is within the limit if core threads never time out
pub own_max : (pool : Pool) → HasMax pool → pool.core_timeout ≡ false → pool.max ≤ MAX_SIZE
own_max pool (inl own) never = own
own_max pool (inr none) never = absurd (false≢true (sym never ∙ (no_max_is pool none).0))

pub max_bounded : (pool : Pool) → HasMax pool → pool.max ≤ MAX_THREADS
max_bounded pool (inl own) = omega (arith, own)
max_bounded pool (inr none) = omega (arith, (no_max_is pool none).1)

-- the maximum of a pool with the same maximum and flags
pub max_kept : (pool other : Pool) → other.max ≡ pool.max → other.core_timeout ≡ pool.core_timeout → other.unbounded ≡ pool.unbounded → HasMax pool → HasMax other
max_kept pool other max timeout unbounded (inl own) = inl (omega (arith, max, own))
max_kept pool other max timeout unbounded (inr none) = inr (by_parts timeout unbounded max ∙ none)
  where
    by_parts : {t t' u u' : Bool} {m m' : ℕ} → t' ≡ t → u' ≡ u → m' ≡ m → (t' && u' && eqb m' MAX_THREADS) ≡ (t && u && eqb m MAX_THREADS)
    by_parts of_timeout of_unbounded of_max = rw (of_timeout, of_unbounded, of_max) refl

-- the maximum of a pool that is raised to n, unless core threads may time out
pub max_raised : (pool : Pool) (n core queue : ℕ) → HasMax pool → n ≤ MAX_SIZE → HasMax (record pool { core = core; max = cond pool.core_timeout pool.max (max pool.max n); queue = queue })
max_raised pool n core queue most low = of_case pool.core_timeout refl
  where
    of_case : (timeout : Bool) → pool.core_timeout ≡ timeout → HasMax (record pool { core = core; max = cond timeout pool.max (max pool.max n); queue = queue })
    of_case true is = most
    of_case false is = inl (omega (arith, own_max pool most is, low))

-- a size that stays unchanged or is raised is no smaller
pub raised-le : (kept : Bool) (m n : ℕ) → m ≤ cond kept m (max m n)
raised-le true m n = omega arith
raised-le false m n = omega arith

-- the sizes of a pool of a well-formed plan are within their ranges
pub sizes_at : (plan : Plan) (p : ℕ) → IsWellFormed plan → p < length plan.pools → HasSizes (pool_at plan p)
sizes_at plan p well inside = has_sizes (pool_at plan p) (list_all_at_In has_valid_sizes (all_sized plan.pools well.pools) (In-get_or plan.pools p no_pool inside))

-- the sizes of all pools are valid if those of the pool at each index are within their ranges
pub sized_from_places : (pools : List Pool) → ((p : ℕ) → p < length pools → HasSizes (get_or pools p no_pool)) → list_all has_valid_sizes pools ≡ true
sized_from_places [] each = refl
sized_from_places (pool ∷ pools) each =
    and_from (has_valid_sizes pool) (list_all has_valid_sizes pools) (valid_from_sizes pool (each 0 (omega arith))) (sized_from_places pools (λ p inside. each (suc p) (omega arith)))
