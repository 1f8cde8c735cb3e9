-- The properties of the bodies, pools and client kinds of a well-formed plan.
use Rattle.std.proofs.Common.{◌≡◌, ◌≤◌, ◌<◌, ◌+◌, ℕ, zero, suc, Bool, true, false, cond, ◌&&◌, ◌||◌, ◌==◌, List, [], ◌∷◌, length, take, get_or, slice_get, Some, refl, sym, ap, subst, ◌∙◌, arith, inl, inr, zero-add}
use Rattle.std.specs.List.{list_all, list_any, enumerate_from}
use Rattle.std.proofs.lemmas.Bool.{and_parts, or_cases, eqb-true, ltb-true, leb-true, eq-eqb, not-true, both_ways, cases_lt}
use Rattle.std.proofs.lemmas.List.{length-take-le, get_or-take, get_or_past}
use Rattle.std.proofs.lemmas.List.Folds.{list_any_at}
use Rattle.std.proofs.lemmas.Option.{slice_get_within, slice_get-get_or, get_or_from_slice_get}
use Rattle.job_bodies.specs.declared.action.Action.{Action}
use Rattle.job_bodies.specs.declared.action.Action.TheVariants.{Work, Submit, Get}
use Rattle.job_bodies.specs.declared.limits.TheConstants.{MAX_SIZE, MAX_THREADS, MAX_WORK}
use Rattle.job_bodies.specs.Plan.{Pool, Plan, no_pool, no_class, no_client, pool_at, class_at, client_at, least_threads, submits, gets}
use Rattle.job_bodies.specs.ValidBody.{IsValidBody}
use Rattle.job_bodies.specs.WellFormed.{is_within, least_queue, has_no_max, largest_max, has_valid_sizes, is_valid_action, is_valid_body, is_valid_pool, is_valid_class, is_valid_client, IsWellFormed}

-- every body is valid, every class has an existing pool, and every size and count is in range
pub record HasValidBodies (plan : Plan) : Type 0 where
  pub classes : (k : ℕ) → IsValidBody plan (class_at plan k).body
  pub clients : (c : ℕ) → IsValidBody plan (client_at plan c).body
  pub pools : (k : ℕ) → k < length plan.classes → (class_at plan k).pool < length plan.pools
  pub core : (p : ℕ) → p < length plan.pools → 1 ≤ (pool_at plan p).core
  pub max : (p : ℕ) → p < length plan.pools → (pool_at plan p).core ≤ (pool_at plan p).max
  pub most_max : (p : ℕ) → p < length plan.pools → (pool_at plan p).max ≤ largest_max (pool_at plan p).core_timeout (pool_at plan p).unbounded
  pub queue : (p : ℕ) → p < length plan.pools → least_queue (pool_at plan p) ≤ (pool_at plan p).queue
  pub most_queue : (p : ℕ) → p < length plan.pools → (pool_at plan p).queue ≤ MAX_SIZE
  pub count : (c : ℕ) → c < length plan.clients → 1 ≤ (client_at plan c).count
  pub most_count : (c : ℕ) → c < length plan.clients → (client_at plan c).count ≤ MAX_SIZE

-- the two bounds of a number that passes a range test
pub within_bounds : (low high n : ℕ) → is_within low high n ≡ true → (low ≤ n) × (n ≤ high)
within_bounds low high n h =
    let p = and_parts _ _ h in
    (leb-true low n p.0, leb-true n high p.1)

-- if `list_all` holds for a test, each element of the list passes it
pub list_all_get : {X : Type 0} (test : X → Bool) (xs : List X) (i : ℕ) (x : X) → list_all test xs ≡ true → slice_get xs i ≡ Some x → test x ≡ true
list_all_get test [] i x h e = cc
list_all_get test (y ∷ xs) zero x h e =
    let same : y ≡ x = cc in
    ap test (sym same) ∙ (and_parts _ _ h).0
list_all_get test (y ∷ xs) (suc i) x h e = list_all_get test xs i x (and_parts (test y) _ h).1 e

-- if `list_all` holds for a test of pairs of an index and an element, each element of the list passes it with its index
pub list_all_enumerated : {X : Type 0} (test : ℕ × X → Bool) (n : ℕ) (xs : List X) (i : ℕ) (x : X) → list_all test (enumerate_from n xs) ≡ true → slice_get xs i ≡ Some x → test (n + i, x) ≡ true
list_all_enumerated test n [] i x h e = cc
list_all_enumerated test n (y ∷ xs) zero x h e =
    let same : y ≡ x = cc in
    let place : n + 0 ≡ n = omega arith in
    rw (place, ← same) (and_parts _ _ h).0
list_all_enumerated test n (y ∷ xs) (suc i) x h e =
    let place : n + suc i ≡ n + 1 + i = omega arith in
    rw place (list_all_enumerated test (n + 1) xs i x (and_parts (test (n, y)) _ h).1 e)

-- the action at each position of a valid body is valid there
pub valid_action : (classes : ℕ) (body : List Action) (i : ℕ) (action : Action) → is_valid_body classes body ≡ true → slice_get body i ≡ Some action → is_valid_action classes body i action ≡ true
valid_action classes body i action h e =
    let test : ℕ × Action → Bool = λ entry. is_valid_action classes body entry.0 entry.1 in
    let found : is_valid_action classes body (0 + i) action ≡ true = list_all_enumerated test 0 body i action (and_parts _ _ h).1 e in
    subst (λ (j : ℕ). is_valid_action classes body j action ≡ true) (zero-add i) found

-- if a get before position h names submit t, `gets t` holds for some action before h
none_before : (body : List Action) (g h t : ℕ) → g < h → h < length body → slice_get body g ≡ Some (Get t) → list_any (gets t) (take h body) ≡ true
none_before body g h t earlier inside e =
    let long : length (take h body) ≡ h = length-take-le h body (omega arith) in
    let there : get_or (take h body) g (Get t) ≡ Get t = get_or-take h body g (Get t) earlier ∙ get_or_from_slice_get body g (Get t) (Get t) e in
    let names : gets t (get_or (take h body) g (Get t)) ≡ true = ap (gets t) there ∙ eq-eqb t t refl in
    list_any_at (gets t) (take h body) g (Get t) (omega arith) names

-- the conditions that a valid get of t at position g satisfies
record IsValidGet (body : List Action) (g t : ℕ) : Type 0 where
  behind : t < g
  of_submit : submits (slice_get body t) ≡ true
  first : list_any (gets t) (take g body) ≡ false

valid_get : (classes : ℕ) (body : List Action) (g t : ℕ) → is_valid_body classes body ≡ true → slice_get body g ≡ Some (Get t) → IsValidGet body g t
valid_get classes body g t h e =
    let p = and_parts _ _ (valid_action classes body g (Get t) h e) in
    let q = and_parts _ _ p.0 in
    record { behind = ltb-true t g q.0; of_submit = q.1; first = not-true _ p.1 }

pub valid_body : (plan : Plan) (body : List Action) → is_valid_body (length plan.classes) body ≡ true → IsValidBody plan body
valid_body plan body h = record {
  short = leb-true _ _ (and_parts _ _ h).0;
  work = λ i u e. within_bounds 1 MAX_WORK u (valid_action _ body i (Work u) h e);
  submit = λ i k e. ltb-true _ _ (valid_action _ body i (Submit k) h e);
  behind = λ g t e. (valid_get _ body g t h e).behind;
  of_submit = λ g t e. (valid_get _ body g t h e).of_submit;
  once = λ g h' t earlier e f. both_ways _ (valid_get _ body h' t h f).first (none_before body g h' t earlier (slice_get_within body h' _ f) e);
}

-- an empty body is valid
empty_body : (plan : Plan) → IsValidBody plan []
empty_body plan = valid_body plan [] refl

class_body : (plan : Plan) → IsWellFormed plan → (k : ℕ) → IsValidBody plan (class_at plan k).body
class_body plan w k = elim (cases_lt k (length plan.classes)) [
  | inl inside ↦ valid_body plan _ (and_parts _ _ (list_all_get (is_valid_class plan) plan.classes k _ w.classes (slice_get-get_or plan.classes k no_class inside))).1
  | inr past ↦ let e : class_at plan k ≡ no_class = get_or_past plan.classes k no_class past in
      rw e (empty_body plan)
]

client_body : (plan : Plan) → IsWellFormed plan → (c : ℕ) → IsValidBody plan (client_at plan c).body
client_body plan w c = elim (cases_lt c (length plan.clients)) [
  | inl inside ↦ valid_body plan _ (and_parts _ _ (list_all_get (is_valid_client plan) plan.clients c _ w.clients (slice_get-get_or plan.clients c no_client inside))).1
  | inr past ↦ let e : client_at plan c ≡ no_client = get_or_past plan.clients c no_client past in
      rw e (empty_body plan)
]

-- the sizes of a pool are in range
pub record AreValidSizes (pool : Pool) : Type 0 where
  pub core : 1 ≤ pool.core
  pub max : pool.core ≤ pool.max
  pub most_max : pool.max ≤ largest_max pool.core_timeout pool.unbounded
  pub queue : least_queue pool ≤ pool.queue
  pub most_queue : pool.queue ≤ MAX_SIZE

-- a maximum is bounded, whether or not it is one of the pool's own
below_largest : (max : ℕ) (both : Bool) → max ≤ MAX_SIZE → max ≤ cond both MAX_THREADS MAX_SIZE
below_largest max true within = omega arith
below_largest max false within = within

-- the greatest maximum of any pool
pub below_most_threads : (plan : Plan) (p : ℕ) → HasValidBodies plan → p < length plan.pools → (pool_at plan p).max ≤ MAX_THREADS
below_most_threads plan p bodies inside = omega (arith, bodies.most_max p inside, largest-le ((pool_at plan p).core_timeout && (pool_at plan p).unbounded))
  where
    largest-le : (both : Bool) → cond both MAX_THREADS MAX_SIZE ≤ MAX_THREADS
    largest-le true = omega arith
    largest-le false = omega arith

-- a pool with a job in its queue has at least one thread
pub some_threads : (plan : Plan) (p : ℕ) → HasValidBodies plan → p < length plan.pools → 1 ≤ least_threads (pool_at plan p)
some_threads plan p bodies inside = at_least (pool_at plan p).core_timeout (bodies.core p inside)
  where
    at_least : (timeout : Bool) {core : ℕ} → 1 ≤ core → 1 ≤ cond timeout 1 core
    at_least true some = omega arith
    at_least false some = some

-- a valid maximum is at least core, and bounded
valid_max : (pool : Pool) → pool.core ≤ MAX_SIZE → (is_within pool.core MAX_SIZE pool.max || has_no_max pool) ≡ true → (pool.core ≤ pool.max) × (pool.max ≤ largest_max pool.core_timeout pool.unbounded)
valid_max pool few valid = elim (or_cases (is_within pool.core MAX_SIZE pool.max) (has_no_max pool) valid) [
  | inl own ↦
      let bounds = within_bounds pool.core MAX_SIZE pool.max own in
      (bounds.0, below_largest pool.max (pool.core_timeout && pool.unbounded) bounds.1)
  | inr none ↦
      let parts = and_parts (pool.core_timeout && pool.unbounded) (pool.max == MAX_THREADS) none in
      let is_largest : pool.max ≡ MAX_THREADS = eqb-true pool.max MAX_THREADS parts.1 in
      let largest : largest_max pool.core_timeout pool.unbounded ≡ MAX_THREADS = ap (λ (b : Bool). cond b MAX_THREADS MAX_SIZE) parts.0 in
      (omega arith, omega arith)
]

pub valid_sizes : (pool : Pool) → has_valid_sizes pool ≡ true → AreValidSizes pool
valid_sizes pool sizes =
    let threads_and_queue = and_parts _ _ sizes in
    let core_and_max = and_parts _ _ threads_and_queue.0 in
    let core = within_bounds 1 MAX_SIZE _ core_and_max.0 in
    let max = valid_max pool core.1 core_and_max.1 in
    let queue = within_bounds (least_queue pool) MAX_SIZE _ threads_and_queue.1 in
    record { core = core.0; max = max.0; most_max = max.1; queue = queue.0; most_queue = queue.1 }

pool_sizes : (plan : Plan) → IsWellFormed plan → (p : ℕ) → p < length plan.pools → AreValidSizes (pool_at plan p)
pool_sizes plan w p inside =
    valid_sizes (pool_at plan p) (and_parts _ _ (list_all_get is_valid_pool plan.pools p _ w.pools (slice_get-get_or plan.pools p no_pool inside))).1

class_pool : (plan : Plan) → IsWellFormed plan → (k : ℕ) → k < length plan.classes → (class_at plan k).pool < length plan.pools
class_pool plan w k inside =
    ltb-true _ _ (and_parts _ _ (and_parts _ _ (list_all_get (is_valid_class plan) plan.classes k _ w.classes (slice_get-get_or plan.classes k no_class inside))).0).1

client_count : (plan : Plan) → IsWellFormed plan → (c : ℕ) → c < length plan.clients → (1 ≤ (client_at plan c).count) × ((client_at plan c).count ≤ MAX_SIZE)
client_count plan w c inside =
    within_bounds 1 MAX_SIZE _ (and_parts _ _ (and_parts _ _ (list_all_get (is_valid_client plan) plan.clients c _ w.clients (slice_get-get_or plan.clients c no_client inside))).0).1

pub ordered : (plan : Plan) → IsWellFormed plan → HasValidBodies plan
ordered plan w = record {
  classes = class_body plan w;
  clients = client_body plan w;
  pools = class_pool plan w;
  core = λ p inside. (pool_sizes plan w p inside).core;
  max = λ p inside. (pool_sizes plan w p inside).max;
  most_max = λ p inside. (pool_sizes plan w p inside).most_max;
  queue = λ p inside. (pool_sizes plan w p inside).queue;
  most_queue = λ p inside. (pool_sizes plan w p inside).most_queue;
  count = λ c inside. (client_count plan w c inside).0;
  most_count = λ c inside. (client_count plan w c inside).1;
}
