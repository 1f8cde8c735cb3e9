-- Well-formed plans. The sizes of a pool are valid for Java's ThreadPoolExecutor with an ArrayBlockingQueue. Core is also at
-- least 1, and no size is above MAX_SIZE, except the maximum of a pool without a maximum of its own (`has_no_max`). If the pool
-- may reject jobs, the capacity of its queue can also be 0, that of a SynchronousQueue. Names are valid and unique in their
-- list. Submits name classes, and gets name submits.
use Rattle.std.specs.Prelude.{◌≤◌, ℕ, Bool, true, not, ◌==◌, ◌&&◌, ◌||◌, nat_lt, nat_le, if◌then◌else◌, List, [], ◌∷◌, length, map, take, slice_index, slice_get, IsTrue}
use Rattle.std.specs.List.{list_all, list_any, enumerate_from}
use Rattle.std.specs.Str.{bytes_eq}
use Rattle.job_bodies.specs.declared.action.Action.{Action}
use Rattle.job_bodies.specs.declared.action.Action.TheVariants.{Work, Submit, Get}
use Rattle.job_bodies.specs.declared.limits.TheConstants.{MAX_POOLS, MAX_CLASSES, MAX_CLIENT_KINDS, MAX_ACTIONS, MAX_SIZE, MAX_THREADS, MAX_WORK, MAX_NAME_BYTES}
use Rattle.job_bodies.specs.Plan.{Pool, Class, Client, Plan, submits, has_get_of}

abbrev pub is_within : ℕ → ℕ → ℕ → Bool
is_within low high n = nat_le low n && nat_le n high

-- whether the byte is one of a to z
abbrev pub is_letter : ℕ → Bool
is_letter b = is_within 97 122 b

-- whether the byte is one of a to z, 0 to 9 or _
abbrev pub is_name_byte : ℕ → Bool
is_name_byte b = is_letter b || is_within 48 57 b || b == 95

-- whether the name has 1 to MAX_NAME_BYTES bytes: first a letter, and then letters, digits and underscores
abbrev pub is_valid_name : List ℕ → Bool
is_valid_name name = is_within 1 MAX_NAME_BYTES (length name) && is_letter (slice_index name 0) && list_all is_name_byte name

abbrev pub are_distinct : List (List ℕ) → Bool
are_distinct [] = true
are_distinct (x ∷ xs) = not (list_any (bytes_eq x) xs) && are_distinct xs

-- the least capacity of the pool's queue: 1, or 0 if the pool may reject jobs
abbrev pub least_queue : Pool → ℕ
least_queue pool = if pool.may_reject then 0 else 1

-- whether the pool has no maximum of its own: its core threads may time out, its queue is unbounded, and its maximum is
-- MAX_THREADS
abbrev pub has_no_max : Pool → Bool
has_no_max pool = pool.core_timeout && pool.unbounded && pool.max == MAX_THREADS

-- the largest valid maximum of a pool, given whether its core threads may time out and whether its queue is unbounded
abbrev pub largest_max : Bool → Bool → ℕ
largest_max core_timeout unbounded = if core_timeout && unbounded then MAX_THREADS else MAX_SIZE

-- whether the sizes are in range: core is from 1 to MAX_SIZE, the maximum is from core to MAX_SIZE (or `has_no_max` is true),
-- and the queue is from its least capacity to MAX_SIZE
abbrev pub has_valid_sizes : Pool → Bool
has_valid_sizes pool = is_within 1 MAX_SIZE pool.core && (is_within pool.core MAX_SIZE pool.max || has_no_max pool) && is_within (least_queue pool) MAX_SIZE pool.queue

abbrev pub is_valid_pool : Pool → Bool
is_valid_pool pool = is_valid_name pool.name && has_valid_sizes pool

-- whether a get at position i of the body may name position t: a submit is at this earlier position, and no earlier get names t
abbrev pub is_valid_get : List Action → ℕ → ℕ → Bool
is_valid_get body i t = nat_lt t i && submits (slice_get body t) && not (has_get_of (take i body) t)

-- whether an action at position i of the body is valid, in a plan with `classes` classes
abbrev pub is_valid_action : ℕ → List Action → ℕ → Action → Bool
is_valid_action classes body i (Work u) = is_within 1 MAX_WORK u
is_valid_action classes body i (Submit k) = nat_lt k classes
is_valid_action classes body i (Get t) = is_valid_get body i t

abbrev pub is_valid_body : ℕ → List Action → Bool
is_valid_body classes body = nat_le (length body) MAX_ACTIONS && list_all (λ entry. is_valid_action classes body entry.0 entry.1) (enumerate_from 0 body)

abbrev pub is_valid_class : Plan → Class → Bool
is_valid_class plan class = is_valid_name class.name && nat_lt class.pool (length plan.pools) && is_valid_body (length plan.classes) class.body

abbrev pub is_valid_client : Plan → Client → Bool
is_valid_client plan client = is_valid_name client.name && is_within 1 MAX_SIZE client.count && is_valid_body (length plan.classes) client.body

pub record IsWellFormed (plan : Plan) : Type 0 where
  pub few_pools : length plan.pools ≤ MAX_POOLS
  pub few_classes : length plan.classes ≤ MAX_CLASSES
  pub few_clients : length plan.clients ≤ MAX_CLIENT_KINDS
  pub pool_names : IsTrue (are_distinct (map (λ pool. pool.name) plan.pools))
  pub class_names : IsTrue (are_distinct (map (λ class. class.name) plan.classes))
  pub client_names : IsTrue (are_distinct (map (λ client. client.name) plan.clients))
  pub pools : IsTrue (list_all is_valid_pool plan.pools)
  pub classes : IsTrue (list_all (is_valid_class plan) plan.classes)
  pub clients : IsTrue (list_all (is_valid_client plan) plan.clients)
