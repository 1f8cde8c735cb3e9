-- The bounds on the numbers of a vector that fits a plan.
use Rattle.std.proofs.Common.{◌≡◌, ◌≤◌, ◌<◌, ◌+◌, ◌-◌, ℕ, zero, suc, Bool, true, false, List, [], ◌∷◌, length, get_or, drop, slice_get, Some, refl, sym, ap, subst, ◌∙◌, arith, inl, inr, zero-add}
use Rattle.std.specs.Prelude.{Option, None, ◌==◌, slice_index, slice_index_or, IsTrue}
use Rattle.std.specs.List.{list_all, enumerate_from}
use Rattle.std.proofs.lemmas.Bool.{and_parts, eqb-true, leb-true, cases_lt}
use Rattle.std.proofs.lemmas.List.{get_or-drop, length-drop}
use Rattle.std.proofs.lemmas.Option.{slice_get-get_or, slice_get_within, get_or_from_slice_get}
use Rattle.job_bodies.specs.Plan.{Plan, no_class, no_client, class_at, client_at}
use Rattle.job_bodies.specs.WellFormed.{IsWellFormed}
use Rattle.job_bodies.specs.declared.action.Action.{Action}
use Rattle.job_bodies.specs.declared.action.Action.TheVariants.{Work, Submit, Get}
use Rattle.job_bodies.specs.declared.limits.TheConstants.{MAX_SIZE, MAX_THREADS, MAX_WEIGHT}
use Rattle.job_bodies.specs.Plan.{Pool, no_pool, pool_at, Class, Client, submits, class_of_submit, submitted_class}
use Rattle.job_bodies.specs.ValidBody.{IsValidBody}
use Rattle.job_bodies.proofs.Bodies.{list_all_enumerated, ordered, below_most_threads}
use Rattle.weights.specs.Body.{IsWeighed}
use Rattle.weights.specs.Vector.{Vector, workers_weight, class_weights, client_weights, job_weight, queued_weight, done_weight, is_small, vector_fits}

pub record Fits (plan : Plan) (v : Vector) : Type 0 where
  pub workers : length v.workers ≡ length plan.pools
  pub classes : length v.classes ≡ length plan.classes
  pub clients : length v.clients ≡ length plan.clients
  pub class : (k : ℕ) → k < length plan.classes → length (class_weights v k) ≡ length (class_at plan k).body + 3
  pub client : (c : ℕ) → c < length plan.clients → length (client_weights v c) ≡ length (client_at plan c).body + 1
  pub small_worker : (p : ℕ) → workers_weight v p ≤ MAX_WEIGHT
  pub small_class : (k i : ℕ) → slice_index (class_weights v k) i ≤ MAX_WEIGHT
  pub small_client : (c i : ℕ) → slice_index (client_weights v c) i ≤ MAX_WEIGHT

-- if all numbers of a list are at most MAX_WEIGHT, so is the number at each index
pub small_in : (xs : List ℕ) (i : ℕ) → list_all is_small xs ≡ true → slice_index xs i ≤ MAX_WEIGHT
small_in [] i small = omega arith
small_in (x ∷ xs) zero small = leb-true x MAX_WEIGHT (and_parts _ _ small).0
small_in (x ∷ xs) (suc i) small = small_in xs i (and_parts (is_small x) _ small).1

-- if all numbers of all rows are at most MAX_WEIGHT, so is the number at each index of each row
small_at : (rows : List (List ℕ)) (k i : ℕ) → list_all (list_all is_small) rows ≡ true → slice_index (slice_index_or rows k []) i ≤ MAX_WEIGHT
small_at [] k i small = omega arith
small_at (row ∷ rows) zero i small = small_in row i (and_parts (list_all is_small row) _ small).0
small_at (row ∷ rows) (suc k) i small = small_at rows k i (and_parts (list_all is_small row) _ small).1

-- if `list_all` holds for a test of pairs of an index and an element, each element of the list passes it with its index
passed_at : {X : Type 0} (test : ℕ × X → Bool) (xs : List X) (i : ℕ) (d : X) → list_all test (enumerate_from 0 xs) ≡ true → i < length xs → test (i, get_or xs i d) ≡ true
passed_at test xs i d all inside =
    let found : test (0 + i, get_or xs i d) ≡ true = list_all_enumerated test 0 xs i _ all (slice_get-get_or xs i d inside) in
    subst (λ (j : ℕ). test (j, get_or xs i d) ≡ true) (zero-add i) found

pub fits : (plan : Plan) (v : Vector) → IsTrue (vector_fits plan v) → Fits plan v
fits plan v all =
    let whole = and_parts _ _ all in
    let shape = and_parts _ _ whole.0 in
    let but_clients = and_parts _ _ shape.0 in
    let counts = and_parts _ _ but_clients.0 in
    let two_counts = and_parts _ _ counts.0 in
    let numbers = and_parts _ _ whole.1 in
    let two_numbers = and_parts _ _ numbers.0 in
    record {
      workers = eqb-true _ _ two_counts.0;
      classes = eqb-true _ _ two_counts.1;
      clients = eqb-true _ _ counts.1;
      class = λ k inside. eqb-true _ _ (passed_at (λ entry. length (class_weights v entry.0) == length entry.1.body + 3) plan.classes k no_class but_clients.1 inside);
      client = λ c inside. eqb-true _ _ (passed_at (λ entry. length (client_weights v entry.0) == length entry.1.body + 1) plan.clients c no_client shape.1 inside);
      small_worker = λ p. small_in v.workers p two_numbers.0;
      small_class = λ k i. small_at v.classes k i two_numbers.1;
      small_client = λ c i. small_at v.clients c i numbers.1;
    }

-- the vector has all weights of class k, and each is within the limit
pub record ClassFits (plan : Plan) (v : Vector) (k : ℕ) (class : Class) : Type 0 where
  pub known : k < length v.classes
  pub pool : class.pool < length v.workers
  pub long : length (class_weights v k) ≡ length class.body + 3
  pub weighed : IsWeighed plan class.body (drop 1 (class_weights v k))
  pub small : (i : ℕ) → slice_index (class_weights v k) i ≤ MAX_WEIGHT
  pub small_worker : workers_weight v class.pool ≤ MAX_WEIGHT
  pub is_class : class_at plan k ≡ class

-- the weights of a job of class k at its positions are the weights of the class without the first one, which is the weight of a queued job
pub at_position : (v : Vector) (k i : ℕ) → slice_index (drop 1 (class_weights v k)) i ≡ job_weight v k i
at_position v k i =
    let swapped : 1 + i ≡ i + 1 = omega arith in
    get_or-drop 1 (class_weights v k) i 0 ∙ ap (slice_index (class_weights v k)) swapped

pub at_positions : (v : Vector) (k : ℕ) → slice_index (drop 1 (class_weights v k)) ≡ job_weight v k
at_positions v k = λ j i. at_position v k i j

pub class_fits : (plan : Plan) (v : Vector) (k : ℕ) (class : Class) → IsWellFormed plan → IsTrue (vector_fits plan v) → slice_get plan.classes k ≡ Some class → ClassFits plan v k class
class_fits plan v k class well all here =
    let f = fits plan v all in
    let inside = slice_get_within plan.classes k class here in
    let same : class_at plan k ≡ class = get_or_from_slice_get plan.classes k class no_class here in
    let long : length (class_weights v k) ≡ length class.body + 3 = f.class k inside ∙ ap (λ (c : Class). length c.body + 3) same in
    let pool : class.pool < length plan.pools = subst (λ (c : Class). c.pool < length plan.pools) same ((ordered plan well).pools k inside) in
    let shorter = length-drop 1 (class_weights v k) in
    record {
      known = omega (arith, f.classes);
      pool = omega (arith, f.workers);
      long = long;
      weighed = record {
        valid = subst (λ (c : Class). IsValidBody plan c.body) same ((ordered plan well).classes k);
        long = omega arith;
        small = λ i. subst (λ (n : ℕ). n ≤ MAX_WEIGHT) (sym (at_position v k i)) (f.small_class k (i + 1));
      };
      small = f.small_class k;
      small_worker = f.small_worker class.pool;
      is_class = same;
    }

-- the last weight of class k is the weight of a done job
pub last_is_done : (plan : Plan) (v : Vector) (k : ℕ) → IsTrue (vector_fits plan v) → k < length plan.classes → slice_index (class_weights v k) (length (class_weights v k) - 1) ≡ done_weight plan v k
last_is_done plan v k all inside =
    let long = (fits plan v all).class k inside in
    ap (slice_index (class_weights v k)) (omega arith)

-- the vector has all weights of client kind c, and each is within the limit
pub record ClientFits (plan : Plan) (v : Vector) (c : ℕ) (client : Client) : Type 0 where
  pub known : c < length v.clients
  pub long : length (client_weights v c) ≡ length client.body + 1
  pub weighed : IsWeighed plan client.body (client_weights v c)

pub client_fits : (plan : Plan) (v : Vector) (c : ℕ) (client : Client) → IsWellFormed plan → IsTrue (vector_fits plan v) → slice_get plan.clients c ≡ Some client → ClientFits plan v c client
client_fits plan v c client well all here =
    let f = fits plan v all in
    let inside = slice_get_within plan.clients c client here in
    let same : client_at plan c ≡ client = get_or_from_slice_get plan.clients c client no_client here in
    let long : length (client_weights v c) ≡ length client.body + 1 = f.client c inside ∙ ap (λ (k : Client). length k.body + 1) same in
    record {
      known = omega (arith, f.clients);
      long = long;
      weighed = record {
        valid = subst (λ (k : Client). IsValidBody plan k.body) same ((ordered plan well).clients c);
        long = omega arith;
        small = f.small_client c;
      };
    }

-- the vector has a weight for a queued job of each class
pub submitted_known : (plan : Plan) (v : Vector) (k : ℕ) → IsTrue (vector_fits plan v) → k < length plan.classes → 0 < length (class_weights v k)
submitted_known plan v k all inside =
    let long = (fits plan v all).class k inside in
    omega arith

-- the class of the job that a valid body gets exists
pub got_known : (plan : Plan) (body : List Action) (i t : ℕ) → IsValidBody plan body → slice_get body i ≡ Some (Get t) → submitted_class body t < length plan.classes
got_known plan body i t valid here = of_submit (slice_get body t) refl (valid.of_submit i t here)
  where
    of_submit : (found : Option Action) → slice_get body t ≡ found → submits found ≡ true → class_of_submit found < length plan.classes
    of_submit None e s = absurd cc
    of_submit (Some (Work u)) e s = absurd cc
    of_submit (Some (Submit k)) e s = valid.submit t k e
    of_submit (Some (Get u)) e s = absurd cc

-- the maximum of a pool is within the limit
pub max_at : (plan : Plan) (p : ℕ) (pool : Pool) → IsWellFormed plan → slice_get plan.pools p ≡ Some pool → pool.max ≤ MAX_THREADS
max_at plan p pool well here =
    let same : pool_at plan p ≡ pool = get_or_from_slice_get plan.pools p pool no_pool here in
    subst (λ (x : Pool). x.max ≤ MAX_THREADS) same (below_most_threads plan p (ordered plan well) (slice_get_within plan.pools p pool here))

-- the number of clients of a kind is within the limit
pub count_at : (plan : Plan) (c : ℕ) (client : Client) → IsWellFormed plan → slice_get plan.clients c ≡ Some client → client.count ≤ MAX_SIZE
count_at plan c client well here =
    let same : client_at plan c ≡ client = get_or_from_slice_get plan.clients c client no_client here in
    subst (λ (x : Client). x.count ≤ MAX_SIZE) same ((ordered plan well).most_count c (slice_get_within plan.clients c client here))
