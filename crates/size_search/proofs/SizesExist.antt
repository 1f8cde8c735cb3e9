-- If no cause holds, sizes above the steady total are enough.
use Rattle.std.proofs.Common.{◌≡◌, ℕ, zero, suc, ◌+◌, ◌-◌, ◌*◌, ◌<◌, ◌≤◌, max, Bool, true, false, ◌&&◌, List, [], ◌∷◌, ◌++◌, length, map, get_or, sum_by, IsTrue, inl, inr, refl, sym, ap, ap₂, ◌∙◌, arith}
use Rattle.std.specs.List.{list_all, enumerate_from}
use Rattle.std.proofs.lemmas.Bool.{and_parts, and_from, or_left, le-leb, cases_lt}
use Rattle.std.proofs.lemmas.List.{length-map, get_or-map, get_or_past}
use Rattle.std.proofs.lemmas.List.Sums.{sum_by-cons}
use Rattle.job_bodies.specs.declared.action.Action.{Action}
use Rattle.job_bodies.specs.declared.action.Action.TheVariants.{Work, Submit, Get}
use Rattle.job_bodies.specs.declared.limits.TheConstants.{MAX_SIZE}
use Rattle.job_bodies.specs.Plan.{Pool, Class, Client, Plan, no_pool, pool_at, class_at, client_at, needs_no_bound, submitted_class}
use Rattle.job_bodies.specs.WellFormed.{is_within, least_queue, has_no_max, has_valid_sizes, IsWellFormed}
use Rattle.weights.specs.Vector.{Vector, queued_weight, done_weight, workers_weight, has_small_numbers, is_small}
use Rattle.size_search.specs.Widened.{outline}
use Rattle.size_search.proofs.Numbered.{map-twice}
use Rattle.size_search.proofs.Changes.{nameplate, at_least_queue, well_formed_changed}
use Rattle.size_search.specs.Submitted.{IsAllGot, LosesWithoutBound, by_client, by_job, goes_without_bound, repeated_bodies}
use Rattle.size_search.specs.Waiting.{IsSteady}
use Rattle.size_search.specs.Causes.{IsWithoutCause}
use Rattle.size_search.specs.Steady.{weight_at, weights_from, job_end, class_row, client_end, client_row, jobs_within, jobs, steady_vector, steady_total, steady_cert}
use Rattle.size_search.proofs.Accepting.{accepting}
use Rattle.size_search.specs.NoSizesHelp.{HasSizes, SizesExist}
use Rattle.size_search.proofs.Circles.{submitted_in}
use Rattle.size_search.specs.ByClients.{client_bodies}
use Rattle.size_search.proofs.LastThreads.{HasSameWaits, itself_in}
use Rattle.size_search.proofs.BeyondSizes.{no_sizes_help}

abbrev pub with_pools : Plan → List Pool → Plan
with_pools plan pools = record plan { pools = pools }

pub map-same : {X Y : Type 0} (f g : X → Y) (xs : List X) → ((x : X) → f x ≡ g x) → map f xs ≡ map g xs
map-same f g [] same = refl
map-same f g (x ∷ xs) same = ap₂ (λ (y : _) (ys : List _). y ∷ ys) (same x) (map-same f g xs same)

-- ---- the steady vector does not depend on sizes

weight_at-pools : (plan : Plan) (pools : List Pool) (v : Vector) (least : ℕ) (body : List Action) (last : ℕ) (rest : List Action) → weight_at (with_pools plan pools) v least body last rest ≡ weight_at plan v least body last rest
weight_at-pools plan pools v least body last [] = refl
weight_at-pools plan pools v least body last (Work u ∷ rest) = weight_at-pools plan pools v least body last rest
weight_at-pools plan pools v least body last (Submit k ∷ rest) = ap (λ (n : ℕ). n + queued_weight v k) (weight_at-pools plan pools v least body last rest)
weight_at-pools plan pools v least body last (Get t ∷ rest) = ap (λ (n : ℕ). max least (n - done_weight plan v (submitted_class body t))) (weight_at-pools plan pools v least body last rest)

weights_from-pools : (plan : Plan) (pools : List Pool) (v : Vector) (least : ℕ) (body : List Action) (last : ℕ) (rest : List Action) → weights_from (with_pools plan pools) v least body last rest ≡ weights_from plan v least body last rest
weights_from-pools plan pools v least body last [] = refl
weights_from-pools plan pools v least body last (x ∷ rest) =
    ap₂ (λ (n : ℕ) (ns : List ℕ). n ∷ ns) (weight_at-pools plan pools v least body last (x ∷ rest)) (weights_from-pools plan pools v least body last rest)

class_row-pools : (plan : Plan) (pools : List Pool) (v : Vector) (body : List Action) → class_row (with_pools plan pools) v body ≡ class_row plan v body
class_row-pools plan pools v body =
    ap₂ (λ (n : ℕ) (ns : List ℕ). n ∷ (ns ++ job_end v body ∷ [])) (weight_at-pools plan pools v 1 body (job_end v body) body) (weights_from-pools plan pools v 1 body (job_end v body) body)

abbrev of_rows : List (List ℕ) → Vector
of_rows rows = record { workers = []; classes = rows; clients = [] }

pub jobs_within-pools : (plan : Plan) (pools : List Pool) (n : ℕ) → jobs_within (with_pools plan pools) n ≡ jobs_within plan n
jobs_within-pools plan pools zero = refl
jobs_within-pools plan pools (suc n) =
    ap (λ (v : Vector). of_rows (map (λ (class : Class). class_row (with_pools plan pools) v class.body) plan.classes)) (jobs_within-pools plan pools n)
    ∙ ap of_rows (map-same (λ (class : Class). class_row (with_pools plan pools) (jobs_within plan n) class.body) (λ (class : Class). class_row plan (jobs_within plan n) class.body) plan.classes (λ class. class_row-pools plan pools (jobs_within plan n) class.body))

pub clients-pools : (plan : Plan) (pools : List Pool) → (steady_vector (with_pools plan pools)).clients ≡ (steady_vector plan).clients
clients-pools plan pools =
    ap (λ (v : Vector). map (client_row (with_pools plan pools) v) plan.clients) (jobs_within-pools plan pools (length plan.classes))
    ∙ map-same (client_row (with_pools plan pools) (jobs plan)) (client_row plan (jobs plan)) plan.clients (λ client. weights_from-pools plan pools (jobs plan) 0 client.body (client_end (jobs plan) client) client.body)

nothing_is_small : {X : Type 0} (xs : List X) → list_all is_small (map (λ (x : X). 0) xs) ≡ true
nothing_is_small [] = refl
nothing_is_small (x ∷ xs) = nothing_is_small xs

pub small-pools : (plan : Plan) (pools : List Pool) → has_small_numbers (steady_vector plan) ≡ true → has_small_numbers (steady_vector (with_pools plan pools)) ≡ true
small-pools plan pools small =
    let v = steady_vector plan in
    let all = and_parts (list_all is_small v.workers && list_all (list_all is_small) v.classes) (list_all (list_all is_small) v.clients) small in
    let rows = and_parts (list_all is_small v.workers) (list_all (list_all is_small) v.classes) all.0 in
    and_from _ _
    (and_from _ _ (nothing_is_small pools) (ap (λ (w : Vector). list_all (list_all is_small) w.classes) (jobs_within-pools plan pools (length plan.classes)) ∙ rows.1))
    (ap (list_all (list_all is_small)) (clients-pools plan pools) ∙ all.1)

no_worker : {X : Type 0} (xs : List X) (p : ℕ) → get_or (map (λ (x : X). zero) xs) p zero ≡ zero
no_worker [] p = refl
no_worker (x ∷ xs) zero = refl
no_worker (x ∷ xs) (suc p) = no_worker xs p

no_workers : (v : Vector) (entries : List (ℕ × Pool)) → ((p : ℕ) → workers_weight v p ≡ 0) → sum_by (λ (entry : ℕ × Pool). workers_weight v entry.0 * entry.1.max) entries ≡ 0
no_workers v [] none = refl
no_workers v (entry ∷ entries) none =
    let term : workers_weight v entry.0 * entry.1.max ≡ 0 * entry.1.max = ap (λ (n : ℕ). n * entry.1.max) (none entry.0) in
    omega (arith, sum_by-cons (λ (any : ℕ × Pool). workers_weight v any.0 * any.1.max) entry entries, term, no_workers v entries none)

pub total-pools : (plan : Plan) (pools : List Pool) → steady_total (with_pools plan pools) ≡ steady_total plan
total-pools plan pools =
    let other = with_pools plan pools in
    let of_clients = λ (rows : List (List ℕ)). sum_by (λ (entry : ℕ × Client). entry.1.count * get_or (get_or rows entry.0 []) 0 0) (enumerate_from 0 plan.clients) in
    let same : of_clients (steady_vector other).clients ≡ of_clients (steady_vector plan).clients = ap of_clients (clients-pools plan pools) in
    omega (arith, same, no_workers (steady_vector other) (enumerate_from 0 pools) (no_worker pools), no_workers (steady_vector plan) (enumerate_from 0 plan.pools) (no_worker plan.pools))

-- ---- the causes do not depend on sizes

pub free-pools : (plan : Plan) (pools : List Pool) → IsAllGot plan → IsAllGot (with_pools plan pools)
free-pools plan pools free = record {
  no_circle = λ k known. free.no_circle k (submitted_in (with_pools plan pools) plan ((class_at plan k).body ∷ []) refl known);
  clients_get = λ c i cause. free.clients_get c i (record { repeats = cause.repeats; never_got = cause.never_got });
  jobs_get = λ k i cause. free.jobs_get k i (record { submitted = submitted_in (with_pools plan pools) plan (repeated_bodies plan) refl cause.submitted; never_got = cause.never_got });
}

-- as many pools as the plan has, of which the same need a bound, and the same have core threads that may time out
pub record HaveSameFlags (plan : Plan) (pools : List Pool) : Type 0 where
  pub as_many : length pools ≡ length plan.pools
  pub boundless : (p : ℕ) → p < length pools → needs_no_bound (get_or pools p no_pool) ≡ needs_no_bound (pool_at plan p)
  pub timeout : (p : ℕ) → p < length pools → (get_or pools p no_pool).core_timeout ≡ (pool_at plan p).core_timeout

pub flags_of_map : (plan : Plan) (f : Pool → Pool) → ((pool : Pool) → needs_no_bound (f pool) ≡ needs_no_bound pool) → ((pool : Pool) → (f pool).core_timeout ≡ pool.core_timeout) → HaveSameFlags plan (map f plan.pools)
flags_of_map plan f boundless timeout = record {
  as_many = length-map plan.pools f;
  boundless = λ p inside. ap needs_no_bound (at p inside) ∙ boundless (pool_at plan p);
  timeout = λ p inside. ap (λ (pool : Pool). pool.core_timeout) (at p inside) ∙ timeout (pool_at plan p);
}
  where
    at : (p : ℕ) → p < length (map f plan.pools) → get_or (map f plan.pools) p no_pool ≡ f (pool_at plan p)
    at p inside = get_or-map f plan.pools p no_pool no_pool (omega (arith, inside, length-map plan.pools f))

same_waits : (plan : Plan) (pools : List Pool) → HaveSameFlags plan pools → HasSameWaits (with_pools plan pools) plan
same_waits plan pools flags = record { classes = refl; clients = refl; timeouts = λ p. sym (at p) }
  where
    at : (p : ℕ) → (get_or pools p no_pool).core_timeout ≡ (pool_at plan p).core_timeout
    at p = elim (cases_lt p (length pools)) [
      | inl inside ↦ flags.timeout p inside
      | inr past ↦
          ap (λ (pool : Pool). pool.core_timeout) (get_or_past pools p no_pool past)
          ∙ ap (λ (pool : Pool). pool.core_timeout) (sym (get_or_past plan.pools p no_pool (omega (arith, past, flags.as_many))))
    ]

pub steady-pools : (plan : Plan) (pools : List Pool) → HaveSameFlags plan pools → IsSteady plan → IsSteady (with_pools plan pools)
steady-pools plan pools flags steady =
    let alike = same_waits plan pools flags in
    record {
      all_got = free-pools plan pools steady.all_got;
      none_waits = λ p waits. steady.none_waits p (itself_in (with_pools plan pools) plan p alike waits);
      used = λ k j may_lose gets. submitted_in plan (with_pools plan pools) (client_bodies plan) refl (steady.used k j (alike.timeouts (class_at plan k).pool ∙ may_lose) gets);
    }

-- a job is of a pool that needs no bound, or of one that needs a bound
either_pool : (b : Bool) → (b ≡ false → ⊥) → (b ≡ true → ⊥) → ⊥
either_pool true needs none = none refl
either_pool false needs none = needs refl

-- if `IsWithoutCause` holds and `LosesWithoutBound` does not, `IsAllGot` holds
pub all_got : (plan : Plan) → IsWithoutCause plan → ¬ LosesWithoutBound plan → IsAllGot plan
all_got plan free none = record {
  no_circle = free.no_circle;
  clients_get = λ c i cause.
      either_pool (goes_without_bound plan (client_at plan c).body i) (λ needs. free.clients_get c i (record { never_got = cause; of_pool = needs })) (λ none_needed. none (by_client (record { never_got = cause; of_pool = none_needed })));
  jobs_get = λ k i cause.
      either_pool (goes_without_bound plan (class_at plan k).body i) (λ needs. free.jobs_get k i (record { never_got = cause; of_pool = needs })) (λ none_needed. none (by_job (record { never_got = cause; of_pool = none_needed })));
}

-- ---- sizes above the total

abbrev sized : ℕ → Pool → Pool
sized n pool = record pool { core = n; max = n; queue = n }

all_valid : (n : ℕ) (pools : List Pool) → 1 ≤ n → n ≤ MAX_SIZE → list_all has_valid_sizes (map (sized n) pools) ≡ true
all_valid n [] low high = refl
all_valid n (pool ∷ pools) low high =
    let same : n ≤ n = omega arith in
    let max = or_left (is_within n MAX_SIZE n) (has_no_max (sized n pool)) (and_from _ _ (le-leb n n same) (le-leb n MAX_SIZE high)) in
    and_from _ _ (and_from _ _ (and_from _ _ (and_from _ _ (le-leb 1 n low) (le-leb n MAX_SIZE high)) max) (and_from _ _ (le-leb (least_queue pool) n (at_least_queue pool n low)) (le-leb n MAX_SIZE high))) (all_valid n pools low high)

sizes_where_free : (plan : Plan) → IsWellFormed plan → IsTrue (has_small_numbers (steady_vector plan)) → steady_total plan < MAX_SIZE → IsSteady plan → HasSizes plan
sizes_where_free plan well small low free =
    let n = steady_total plan + 1 in
    let pools = map (sized n) plan.pools in
    let other = with_pools plan pools in
    let same : outline other ≡ outline plan = ap (with_pools plan) (map-twice nameplate (sized n) plan.pools) in
    let well' = well_formed_changed plan other well same (all_valid n plan.pools (omega arith) (omega (arith, low))) in
    let steady = accepting other well' (steady-pools plan pools (flags_of_map plan (sized n) (λ pool. refl) (λ pool. refl)) free) (small-pools plan pools small) in
    record {
      other = other;
      cert = steady_cert other;
      well_formed = well';
      same_outline = same;
      accepts = steady.is_accepted.1 (λ p inside.
          let known : p < length plan.pools = omega (arith, inside, length-map plan.pools (sized n)) in
          let pool : pool_at other p ≡ sized n (pool_at plan p) = get_or-map (sized n) plan.pools p no_pool no_pool known in
          let queue = ap (λ (any : Pool). any.queue) pool in
          let core = ap (λ (any : Pool). any.core) pool in
          (λ needs. omega (arith, queue, total-pools plan pools), λ never. omega (arith, core, total-pools plan pools)));
    }

pub free_where_sizes : (plan : Plan) → HasSizes plan → IsWithoutCause plan
free_where_sizes plan sizes = record {
  no_circle = λ k cause. no_sizes_help.circle plan k cause sizes.other sizes.cert sizes.well_formed sizes.same_outline sizes.accepts;
  clients_get = λ c i cause. no_sizes_help.client_never_gets plan c i cause sizes.other sizes.cert sizes.well_formed sizes.same_outline sizes.accepts;
  jobs_get = λ k i cause. no_sizes_help.class_never_gets plan k i cause sizes.other sizes.cert sizes.well_formed sizes.same_outline sizes.accepts;
  none_waits = λ p cause. no_sizes_help.pool_waits_for_itself plan p cause sizes.other sizes.cert sizes.well_formed sizes.same_outline sizes.accepts;
}

pub sizes_exist : SizesExist
sizes_exist plan well small low none used = (free_where_sizes plan, λ free. sizes_where_free plan well small low (record { all_got = all_got plan free none; none_waits = free.none_waits; used = used }))
