-- Fitted plans have the least cores and queues with which the certificate accepts them.
use Rattle.std.proofs.Common.{◌≡◌, ℕ, ◌+◌, ◌-◌, ◌<◌, ◌≤◌, max, inl, inr, Bool, true, false, cond, ◌&&◌, List, length, Option, Some, None, refl, ap, ap₂, sym, subst, ◌∙◌, arith, zero-add}
use Rattle.std.specs.List.{list_all, enumerate_from}
use Rattle.std.proofs.lemmas.Bool.{and_parts, and_from, cases_lt}
use Rattle.std.proofs.lemmas.Option.{same_Some, get_or_from_slice_get}
use Rattle.support.specs.In.{In}
use Rattle.support.proofs.Members.{list_all_from_In}
use Rattle.job_bodies.specs.Plan.{Pool, Plan, no_pool, pool_at, least_threads, needs_no_bound, first_workers}
use Rattle.job_bodies.specs.WellFormed.{has_valid_sizes, IsWellFormed}
use Rattle.weights.specs.declared.bound.Bound.{Bound}
use Rattle.weights.specs.declared.bound.Bound.TheVariants.{Standing, Lifetime}
use Rattle.weights.specs.Vector.{total}
use Rattle.cert_text.specs.Cert.{PoolCert, Cert, pool_cert_at, cert_fits}
use Rattle.soundness.specs.Conditions.{failing}
use Rattle.soundness.specs.Accepted.{is_nil, accepted}
use Rattle.soundness.proofs.Faults.{pool_numbers}
use Rattle.size_search.specs.Fitted.{core_needed, queue_of_bound, queue_needed, with_core, raised_pool, raised, has_queue, have_queues, has_threads, have_threads, fails_only_at_totals, fitted, shape, IsNoSmaller, IsFit, IsLeastFit, NoneFits, FittedSizesAreLeast, AcceptedPlansFit, LargerSizesAreAccepted}
use Rattle.size_search.proofs.Shapes.{total_of, cert_fits-shape}
use Rattle.size_search.proofs.Holding.{at_number}
use Rattle.size_search.proofs.Numbered.{numbered_same}
use Rattle.size_search.proofs.TotalRows.{hold_but_totals, fails_only_at_totals_from, at_totals_where_accepted, totals_where_accepted, accepted_from_totals, same_in_shape, hold_in_shape}
use Rattle.size_search.proofs.Changes.{least_queue_kept, well_formed_changed, outline_of_shape, HasSizes, max_kept, sizes_at, sized_from_places}
use Rattle.size_search.proofs.RaisedPlans.{has_shape, raised-shape, raised_at, raised_past, kept_or_raised, raised_no_smaller, raised_keeps_queues, raised_keeps_cores, pool_limit, limit_of-pool, same_total, has_queue_from, has_threads_from, raised_totals}

-- ---- the least of the plans that fit

-- the other pool's core and queue are no smaller than this pool's, and it has room for the totals
record HasRoom (plan : Plan) (cert : PoolCert) (pool other : Pool) : Type 0 where
  unbounded : other.unbounded ≡ pool.unbounded
  max : other.max ≡ pool.max
  prestart : other.prestart ≡ pool.prestart
  timeout : other.core_timeout ≡ pool.core_timeout
  core : pool.core ≤ other.core
  queue : pool.queue ≤ other.queue
  sizes : HasSizes other
  bound : other.unbounded ≡ false → total_of plan cert.bound ≤ pool_limit cert.bound other
  blocked : total plan cert.blocked ≤ least_threads other - 1

-- the number of prestarted threads grows with the core, and is at most the core
cond-le : (a b : Bool) (m n : ℕ) → b ≡ a → m ≤ n → cond a m 0 ≤ cond b n 0
cond-le true true m n same less = less
cond-le true false m n same less = absurd cc
cond-le false true m n same less = omega arith
cond-le false false m n same less = omega arith

pub cond-le-self : (b : Bool) (n : ℕ) → cond b n 0 ≤ n
cond-le-self true n = omega arith
cond-le-self false n = omega arith

-- the queue that is needed, which is 0 if the queue is unbounded, is at most q
none_or_needed : (unbounded : Bool) (needed q : ℕ) → (unbounded ≡ false → needed ≤ q) → cond unbounded 0 needed ≤ q
none_or_needed true needed q enough = omega arith
none_or_needed false needed q enough = enough refl

-- a total within the limit of another pool requires at most that pool's queue
lifetime_needs : (timeout timeout' : Bool) (max max' first first' queue total : ℕ) → timeout' ≡ timeout → max' ≡ max → first ≤ first' → first' ≤ max' → total ≤ cond timeout' queue (queue + max' - first') → total - cond timeout 0 (max - first) ≤ queue
lifetime_needs true true max max' first first' queue total same as_max more within room = omega (arith, room)
lifetime_needs true false max max' first first' queue total same as_max more within room = absurd cc
lifetime_needs false true max max' first first' queue total same as_max more within room = absurd cc
lifetime_needs false false max max' first first' queue total same as_max more within room = omega (arith, room, as_max, more, within)

-- the queue that a bound requires of a pool is at most the queue of another pool that has room for the total
needed_le : (plan : Plan) (bound : Option Bound) (pool other : Pool) → other.unbounded ≡ pool.unbounded → other.core_timeout ≡ pool.core_timeout → other.max ≡ pool.max → first_workers pool ≤ first_workers other → first_workers other ≤ other.max
    → (other.unbounded ≡ false → total_of plan bound ≤ pool_limit bound other) → queue_needed plan bound pool ≤ other.queue
needed_le plan None pool other same timeout max more within room = omega arith
needed_le plan (Some (Standing v)) pool other same timeout max more within room =
    none_or_needed pool.unbounded (queue_of_bound plan (Standing v) pool) other.queue (λ bounded. room (same ∙ bounded))
needed_le plan (Some (Lifetime v)) pool other same timeout max more within room =
    none_or_needed pool.unbounded (queue_of_bound plan (Lifetime v) pool) other.queue
    (λ bounded. lifetime_needs pool.core_timeout other.core_timeout pool.max other.max (first_workers pool) (first_workers other) other.queue (total plan v) timeout max more within (room (same ∙ bounded)))

-- if q and `needed` are at most q', so is the queue that is q or, if it does not stay unchanged, the larger of q and `needed`
kept_or_raised-le : (b : Bool) (q needed q' : ℕ) → q ≤ q' → needed ≤ q' → cond b q (max q needed) ≤ q'
kept_or_raised-le true q needed q' no_smaller enough = no_smaller
kept_or_raised-le false q needed q' no_smaller enough = omega arith

-- a size that stays unchanged or is raised to what is needed is no larger than another one that is no smaller than both
pub kept_or_needed : (kept : Bool) (m needed m' : ℕ) → m ≤ m' → (kept ≡ false → needed ≤ m') → cond kept m (max m needed) ≤ m'
kept_or_needed true m needed m' no_smaller enough = no_smaller
kept_or_needed false m needed m' no_smaller enough = omega (arith, no_smaller, enough refl)

least_core : (plan : Plan) (cert : PoolCert) (pool other : Pool) → HasRoom plan cert pool other → (raised_pool plan cert pool).core ≤ other.core
least_core plan cert pool other room =
    kept_or_needed pool.core_timeout pool.core (core_needed plan cert.blocked) other.core room.core
    (λ never.
    let threads : least_threads other ≡ other.core = ap (λ (timeout : Bool). cond timeout 1 other.core) (room.timeout ∙ never) in
    omega (arith, room.blocked, threads, room.sizes.core))

-- the queue that a bound requires of a pool whose core was raised is at most the queue of a pool that has room for the totals
least_needed : (plan : Plan) (cert : PoolCert) (pool other : Pool) → HasRoom plan cert pool other → queue_needed plan cert.bound (with_core plan cert.blocked pool) ≤ other.queue
least_needed plan cert pool other room =
    let within = cond-le-self other.prestart other.core in
    needed_le plan cert.bound (with_core plan cert.blocked pool) other room.unbounded room.timeout room.max (cond-le pool.prestart other.prestart (with_core plan cert.blocked pool).core other.core room.prestart (least_core plan cert pool other room))
    (omega (arith, within, room.sizes.max)) room.bound

least_pool : (plan : Plan) (cert : PoolCert) (pool other : Pool) → HasRoom plan cert pool other → (raised_pool plan cert pool).queue ≤ other.queue
least_pool plan cert pool other room =
    kept_or_raised-le (needs_no_bound pool) pool.queue (queue_needed plan cert.bound (with_core plan cert.blocked pool)) other.queue room.queue (least_needed plan cert pool other room)

-- the queue that a bound requires of a pool does not depend on the pool's own queue
needed_of_raised : (plan : Plan) (cert : PoolCert) (bound : Option Bound) (pool : Pool) → cert.bound ≡ bound → queue_needed plan bound (raised_pool plan cert pool) ≡ queue_needed plan bound (with_core plan cert.blocked pool)
needed_of_raised plan cert None pool is = refl
needed_of_raised plan cert (Some (Standing v)) pool is = refl
needed_of_raised plan cert (Some (Lifetime v)) pool is = refl

-- a raised queue is as large as its bound requires, unless it stays unchanged
kept_or_enough : (b : Bool) (q needed : ℕ) → (b ≡ true → needed ≤ q) → needed ≤ cond b q (max q needed)
kept_or_enough true q needed if_kept = if_kept refl
kept_or_enough false q needed if_kept = omega arith

-- the pools of a plan that fits have room for the totals
has_room : (plan other : Plan) (cert : Cert) (p : ℕ) → IsFit plan cert other → p < length plan.pools → HasRoom plan (pool_cert_at cert p) (pool_at plan p) (pool_at other p)
has_room plan other cert p fits inside =
    let alike = has_shape plan other fits.resized.same_shape in
    let totals = totals_where_accepted other cert fits.accepts in
    let there : p < length other.pools = omega (arith, alike.as_many) in
    let pool_cert = pool_cert_at cert p in
    record {
      unbounded = alike.unbounded p;
      max = alike.max p;
      prestart = alike.prestart p;
      timeout = alike.timeout p;
      core = fits.no_smaller.core p;
      queue = fits.no_smaller.queue p;
      sizes = sizes_at other p fits.resized.well_formed there;
      bound = λ bounded. omega (arith, totals.bounds p there bounded, limit_of-pool other p pool_cert.bound, same_total plan other pool_cert.bound alike.total);
      blocked = omega (arith, totals.blocked p there, alike.total pool_cert.blocked);
    }

raised_least : (plan other : Plan) (cert : Cert) → IsFit plan cert other → IsNoSmaller other (raised plan cert)
raised_least plan other cert fits = record { core = λ p. (at_pool p).0; queue = λ p. (at_pool p).1 }
  where
    at_pool : (p : ℕ) → ((pool_at (raised plan cert) p).core ≤ (pool_at other p).core) × ((pool_at (raised plan cert) p).queue ≤ (pool_at other p).queue)
    at_pool p = elim (cases_lt p (length plan.pools)) [
      | inl inside ↦ let is = raised_at plan cert p inside in
          let core = ap (λ (pool : Pool). pool.core) is in
          let queue = ap (λ (pool : Pool). pool.queue) is in
          let room = has_room plan other cert p fits inside in
          (omega (arith, least_core plan (pool_cert_at cert p) (pool_at plan p) (pool_at other p) room), omega (arith, least_pool plan (pool_cert_at cert p) (pool_at plan p) (pool_at other p) room))
      | inr past ↦ let is = raised_past plan cert p past in
          let core = ap (λ (pool : Pool). pool.core) is in
          let queue = ap (λ (pool : Pool). pool.queue) is in
          (omega (arith, fits.no_smaller.core p), omega (arith, fits.no_smaller.queue p))
    ]

-- if some plan fits, the certificate fits the plan
pub fits_where_fit : (plan other : Plan) (cert : Cert) → IsFit plan cert other → cert_fits plan cert ≡ true
fits_where_fit plan other cert fits =
    sym (same_in_shape (λ (any : Plan). cert_fits any cert) plan other (λ any. cert_fits-shape any cert) fits.resized.same_shape) ∙ (and_parts (cert_fits other cert) (is_nil (failing other cert)) fits.accepts).0

-- if some plan fits, each queue of the raised plan is as large as its bound requires
have_queues_where_fit : (plan other : Plan) (cert : Cert) → IsFit plan cert other → have_queues plan cert ≡ true
have_queues_where_fit plan other cert fits =
    list_all_from_In (λ (entry : ℕ × Pool). has_queue plan (pool_cert_at cert entry.0).bound entry.1) (enumerate_from 0 (raised plan cert).pools) each
  where
    at_pool : (p : ℕ) → p < length plan.pools → queue_needed plan (pool_cert_at cert p).bound (raised_pool plan (pool_cert_at cert p) (pool_at plan p)) ≤ (raised_pool plan (pool_cert_at cert p) (pool_at plan p)).queue
    at_pool p inside =
        let part = pool_cert_at cert p in
        let pool = pool_at plan p in
        let room = has_room plan other cert p fits inside in
        let needed = queue_needed plan part.bound (with_core plan part.blocked pool) in
        let enough = kept_or_enough (needs_no_bound pool) pool.queue needed (λ none. let same = fits.resized.keeps_queues.same_queue p none in omega (arith, same, least_needed plan part pool (pool_at other p) room)) in
        omega (arith, enough, needed_of_raised plan part part.bound pool refl)

    each : (entry : ℕ × Pool) → In entry (enumerate_from 0 (raised plan cert).pools) → has_queue plan (pool_cert_at cert entry.0).bound entry.1 ≡ true
    each entry among =
        let alike = has_shape plan (raised plan cert) (raised-shape plan cert) in
        let inside : entry.0 < length plan.pools = omega (arith, alike.as_many, (pool_numbers 0 (raised plan cert).pools entry among).1) in
        let is : pool_at (raised plan cert) entry.0 ≡ entry.1 = get_or_from_slice_get (raised plan cert).pools entry.0 entry.1 no_pool (at_number (raised plan cert).pools entry among) in
        has_queue_from plan (pool_cert_at cert entry.0).bound entry.1
        (subst (λ (pool : Pool). queue_needed plan (pool_cert_at cert entry.0).bound pool ≤ pool.queue) (sym (raised_at plan cert entry.0 inside) ∙ is) (at_pool entry.0 inside))

-- the threads of a raised pool are as many as its blocked vector requires if those of a pool that fits are
raised_threads : (plan : Plan) (cert : PoolCert) (pool other : Pool) → HasRoom plan cert pool other → core_needed plan cert.blocked ≤ least_threads (raised_pool plan cert pool)
raised_threads plan cert pool other room = of_case pool.core_timeout other.core_timeout room.timeout room.blocked
  where
    of_case : (timeout timeout' : Bool) → timeout' ≡ timeout → total plan cert.blocked ≤ cond timeout' 1 other.core - 1 → core_needed plan cert.blocked ≤ cond timeout 1 (cond timeout pool.core (max pool.core (core_needed plan cert.blocked)))
    of_case true true same within = omega (arith, within)
    of_case true false same within = absurd cc
    of_case false timeout' same within = omega arith

-- if some plan fits, each pool of the raised plan has as many threads as its blocked vector requires
have_threads_where_fit : (plan other : Plan) (cert : Cert) → IsFit plan cert other → have_threads plan cert ≡ true
have_threads_where_fit plan other cert fits =
    list_all_from_In (λ (entry : ℕ × Pool). has_threads plan (pool_cert_at cert entry.0).blocked entry.1) (enumerate_from 0 (raised plan cert).pools) each
  where
    each : (entry : ℕ × Pool) → In entry (enumerate_from 0 (raised plan cert).pools) → has_threads plan (pool_cert_at cert entry.0).blocked entry.1 ≡ true
    each entry among =
        let alike = has_shape plan (raised plan cert) (raised-shape plan cert) in
        let inside : entry.0 < length plan.pools = omega (arith, alike.as_many, (pool_numbers 0 (raised plan cert).pools entry among).1) in
        let is : pool_at (raised plan cert) entry.0 ≡ entry.1 = get_or_from_slice_get (raised plan cert).pools entry.0 entry.1 no_pool (at_number (raised plan cert).pools entry among) in
        has_threads_from plan (pool_cert_at cert entry.0).blocked entry.1
        (subst (λ (pool : Pool). core_needed plan (pool_cert_at cert entry.0).blocked ≤ least_threads pool) (sym (raised_at plan cert entry.0 inside) ∙ is)
        (raised_threads plan (pool_cert_at cert entry.0) (pool_at plan entry.0) (pool_at other entry.0) (has_room plan other cert entry.0 fits inside)))

-- if some plan fits, the raised plan has valid sizes
raised_sized : (plan other : Plan) (cert : Cert) → IsWellFormed plan → IsFit plan cert other → list_all has_valid_sizes (raised plan cert).pools ≡ true
raised_sized plan other cert well fits = sized_from_places (raised plan cert).pools each
  where
    each : (p : ℕ) → p < length (raised plan cert).pools → HasSizes (pool_at (raised plan cert) p)
    each p there =
        let alike = has_shape plan (raised plan cert) (raised-shape plan cert) in
        let inside : p < length plan.pools = omega (arith, alike.as_many) in
        let room = has_room plan other cert p fits inside in
        let declared = sizes_at plan p well inside in
        let smaller = raised_no_smaller plan cert in
        let least = raised_least plan other cert fits in
        record {
          core = omega (arith, declared.core, smaller.core p);
          most_core = omega (arith, least.core p, room.sizes.most_core);
          max = omega (arith, least.core p, room.sizes.max, room.max, alike.max p);
          most_max = max_kept (pool_at plan p) (pool_at (raised plan cert) p) (alike.max p) (alike.timeout p) (alike.unbounded p) declared.most_max;
          queue = least_queue_kept (pool_at plan p) (pool_at (raised plan cert) p) (pool_at (raised plan cert) p).queue (alike.may_reject p) (omega (arith, declared.queue, smaller.queue p));
          most_queue = omega (arith, least.queue p, room.sizes.most_queue);
        }

-- ---- the fitted plan

-- the fitted plan is the raised plan, whose sizes are valid, and whose queues and threads are as many as required; only totals fail
record IsRaised (plan : Plan) (cert : Cert) (fit : Plan) : Type 0 where
  only_at_totals : fails_only_at_totals plan cert ≡ true
  sized : list_all has_valid_sizes (raised plan cert).pools ≡ true
  queues : have_queues plan cert ≡ true
  threads : have_threads plan cert ≡ true
  is : raised plan cert ≡ fit

cond_Some : {X : Type 0} (b : Bool) (x y : X) → cond b (Some x) None ≡ Some y → (b ≡ true) × (x ≡ y)
cond_Some true x y e = (refl, same_Some x y e)
cond_Some false x y e = absurd cc

is_raised : (plan fit : Plan) (cert : Cert) → fitted plan cert ≡ Some fit → IsRaised plan cert fit
is_raised plan fit cert e =
    let only_at_totals = fails_only_at_totals plan cert in
    let sized = list_all has_valid_sizes (raised plan cert).pools in
    let queues = have_queues plan cert in
    let threads = have_threads plan cert in
    let found = cond_Some (only_at_totals && sized && queues && threads) (raised plan cert) fit e in
    let all = and_parts (only_at_totals && sized && queues) threads found.0 in
    let parts = and_parts (only_at_totals && sized) queues all.0 in
    let front = and_parts only_at_totals sized parts.0 in
    record { only_at_totals = front.0; sized = front.1; queues = parts.1; threads = all.1; is = found.1 }

pub fitted_from : (plan : Plan) (cert : Cert) → fails_only_at_totals plan cert ≡ true → list_all has_valid_sizes (raised plan cert).pools ≡ true → have_queues plan cert ≡ true → have_threads plan cert ≡ true → fitted plan cert ≡ Some (raised plan cert)
fitted_from plan cert only_at_totals sized queues threads =
    let front = and_from (fails_only_at_totals plan cert) (list_all has_valid_sizes (raised plan cert).pools) only_at_totals sized in
    let parts = and_from (fails_only_at_totals plan cert && list_all has_valid_sizes (raised plan cert).pools) (have_queues plan cert) front queues in
    ap (λ (b : Bool). cond b (Some (raised plan cert)) None) (and_from (fails_only_at_totals plan cert && list_all has_valid_sizes (raised plan cert).pools && have_queues plan cert) (have_threads plan cert) parts threads)

-- a raised plan with valid sizes is well-formed
pub raised_is_well_formed : (plan : Plan) (cert : Cert) → IsWellFormed plan → list_all has_valid_sizes (raised plan cert).pools ≡ true → IsWellFormed (raised plan cert)
raised_is_well_formed plan cert well sized = well_formed_changed plan (raised plan cert) well (outline_of_shape plan (raised plan cert) (raised-shape plan cert)) sized

fits_raised : (plan : Plan) (cert : Cert) → IsWellFormed plan → IsRaised plan cert (raised plan cert) → IsFit plan cert (raised plan cert)
fits_raised plan cert well of_plan = record {
  resized = record { well_formed = raised_is_well_formed plan cert well of_plan.sized; same_shape = raised-shape plan cert; keeps_queues = raised_keeps_queues plan cert; keeps_cores = raised_keeps_cores plan cert };
  no_smaller = raised_no_smaller plan cert;
  accepts = accepted_from_totals (raised plan cert) cert (hold_in_shape plan (raised plan cert) cert (raised-shape plan cert) (hold_but_totals plan cert of_plan.only_at_totals)) (raised_totals plan cert of_plan.sized of_plan.queues of_plan.threads);
}

-- if the certificate accepts some plan of the same shape, only totals of this plan fail
only_at_totals_where_fit : (plan other : Plan) (cert : Cert) → shape other ≡ shape plan → accepted other cert ≡ true → fails_only_at_totals plan cert ≡ true
only_at_totals_where_fit plan other cert same is_accepted =
    fails_only_at_totals_from plan cert (hold_in_shape other plan cert (sym same) (hold_but_totals other cert (at_totals_where_accepted other cert is_accepted)))

pub fitted_fits : (plan fit : Plan) (cert : Cert) → IsWellFormed plan → fitted plan cert ≡ Some fit → IsFit plan cert fit
fitted_fits plan fit cert well e =
    let found = is_raised plan fit cert e in
    subst (IsFit plan cert) found.is (fits_raised plan cert well (record { only_at_totals = found.only_at_totals; sized = found.sized; queues = found.queues; threads = found.threads; is = refl }))

pub fitted_is_least : (plan fit other : Plan) (cert : Cert) → fitted plan cert ≡ Some fit → IsFit plan cert other → IsNoSmaller other fit
fitted_is_least plan fit other cert e fits = subst (IsNoSmaller other) (is_raised plan fit cert e).is (raised_least plan other cert fits)

pub none_fits : (plan : Plan) (cert : Cert) → IsWellFormed plan → fitted plan cert ≡ None → NoneFits plan cert
none_fits plan cert well none other fits =
    let some = fitted_from plan cert (only_at_totals_where_fit plan other cert fits.resized.same_shape fits.accepts) (raised_sized plan other cert well fits) (have_queues_where_fit plan other cert fits) (have_threads_where_fit plan other cert fits) in
    absurd cc

pub fitted_sizes_are_least : FittedSizesAreLeast
fitted_sizes_are_least = record {
  fits = λ plan fit cert well e. fitted_fits plan fit cert well e;
  least = λ plan fit other cert e fits. fitted_is_least plan fit other cert e fits;
  none = λ plan cert well none. none_fits plan cert well none;
}

-- the postcondition of `fitted`: the fitted plan has the least sizes
pub least_fit : (plan fit : Plan) (cert : Cert) → IsWellFormed plan → fitted plan cert ≡ Some fit → IsLeastFit plan cert fit
least_fit plan fit cert well e = record { fits = fitted_fits plan fit cert well e; least = λ other fits. fitted_is_least plan fit other cert e fits }

-- ---- an accepted plan

-- raising does not change a pool that has room for the totals
stays : (plan : Plan) (cert : PoolCert) (pool : Pool) → HasRoom plan cert pool pool → raised_pool plan cert pool ≡ pool
stays plan cert pool room =
    let core : (raised_pool plan cert pool).core ≡ pool.core = omega (arith, least_core plan cert pool pool room, kept_or_raised pool.core_timeout pool.core (core_needed plan cert.blocked)) in
    let queue : (raised_pool plan cert pool).queue ≡ pool.queue = omega (arith, least_pool plan cert pool pool room, kept_or_raised (needs_no_bound pool) pool.queue (queue_needed plan cert.bound (with_core plan cert.blocked pool))) in
    ap₂ (λ (c q : ℕ). record pool { core = c; queue = q }) core queue

pub accepted_plans_fit : AcceptedPlansFit
accepted_plans_fit plan cert well is_accepted =
    let itself : IsFit plan cert plan = record {
      resized = record { well_formed = well; same_shape = refl; keeps_queues = record { same_queue = λ p none. refl }; keeps_cores = record { same_core = λ p may_lose. refl } };
      no_smaller = record { core = λ p. omega arith; queue = λ p. omega arith };
      accepts = is_accepted;
    } in
    let same : raised plan cert ≡ plan = ap (λ (pools : List Pool). record plan { pools = pools })
    (numbered_same (λ (entry : ℕ × Pool). raised_pool plan (pool_cert_at cert entry.0) entry.1) 0 plan.pools no_pool
    (λ p inside. ap (λ (j : ℕ). raised_pool plan (pool_cert_at cert j) (pool_at plan p)) (zero-add p) ∙ stays plan (pool_cert_at cert p) (pool_at plan p) (has_room plan plan cert p itself inside))) in
    fitted_from plan cert (at_totals_where_accepted plan cert is_accepted) (raised_sized plan plan cert well itself) (have_queues_where_fit plan plan cert itself) (have_threads_where_fit plan plan cert itself) ∙ ap Some same

-- a pool has no fewer threads if its core is no smaller
threads-le : (pool other : Pool) → other.core_timeout ≡ pool.core_timeout → pool.core ≤ other.core → least_threads pool ≤ least_threads other
threads-le pool other timeout core = of_case pool.core_timeout other.core_timeout timeout
  where
    of_case : (timeout timeout' : Bool) → timeout' ≡ timeout → cond timeout 1 pool.core ≤ cond timeout' 1 other.core
    of_case true true same = omega arith
    of_case true false same = absurd cc
    of_case false true same = absurd cc
    of_case false false same = core

pub larger_sizes_are_accepted : LargerSizesAreAccepted
larger_sizes_are_accepted plan other cert same is_accepted cores limits =
    let alike = has_shape plan other same in
    let totals = totals_where_accepted plan cert is_accepted in
    accepted_from_totals other cert (hold_in_shape plan other cert same (hold_but_totals plan cert (at_totals_where_accepted plan cert is_accepted)))
    (record {
      bounds = λ p there is_bounded.
          let bounded = sym (alike.unbounded p) ∙ is_bounded in
          omega (arith, totals.bounds p (omega (arith, alike.as_many)) bounded, limits p bounded, same_total plan other (pool_cert_at cert p).bound alike.total);
      blocked = λ p there. omega (arith, totals.blocked p (omega (arith, alike.as_many)), threads-le (pool_at plan p) (pool_at other p) (alike.timeout p) (cores p), alike.total (pool_cert_at cert p).blocked);
    })
