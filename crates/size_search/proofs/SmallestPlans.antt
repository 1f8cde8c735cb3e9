-- Fitting the plan whose cores and queues are 1 gives the least cores and queues of all.
use Rattle.std.proofs.Common.{◌≡◌, ℕ, ◌<◌, ◌≤◌, inl, inr, Bool, true, false, cond, ◌||◌, List, length, refl, ap, sym, ◌∙◌, arith}
use Rattle.std.proofs.lemmas.Bool.{cases_lt}
use Rattle.std.proofs.lemmas.List.{get_or_past}
use Rattle.job_bodies.specs.Plan.{Pool, Plan, no_pool, pool_at, needs_no_bound}
use Rattle.job_bodies.specs.WellFormed.{least_queue, IsWellFormed}
use Rattle.cert_text.specs.Cert.{Cert}
use Rattle.soundness.specs.Accepted.{accepted}
use Rattle.size_search.specs.Fitted.{shape, KeepsQueues, KeepsCores, IsResized, IsFit, smallest_pool, smallest, SmallestFitIsLeast}
use Rattle.size_search.proofs.Shapes.{bare, length-changed}
use Rattle.size_search.proofs.Numbered.{map-twice, changed_at}
use Rattle.size_search.proofs.Changes.{least_queue_kept, well_formed_changed, outline_of_shape, HasSizes, max_kept, sizes_at, sized_from_places}
use Rattle.size_search.proofs.RaisedPlans.{has_shape}
use Rattle.size_search.proofs.LeastSizes.{fitted_fits, fitted_is_least, none_fits}

-- a core that stays unchanged or is 1 is a valid core, and no larger than the core
kept_core : (timeout : Bool) (core : ℕ) → 1 ≤ core → (1 ≤ cond timeout core 1) × (cond timeout core 1 ≤ core)
kept_core true core valid = (valid, omega arith)
kept_core false core valid = (omega arith, valid)

kept_core-le : (timeout : Bool) (core core' : ℕ) → (timeout ≡ true → core ≤ core') → 1 ≤ core' → cond timeout core 1 ≤ core'
kept_core-le true core core' if_kept valid = if_kept refl
kept_core-le false core core' if_kept valid = valid

-- a queue that stays unchanged or is 1 is a valid queue, and no larger than any other queue
kept_or_one : (may_reject unbounded : Bool) (q : ℕ) → cond may_reject 0 1 ≤ q → (cond may_reject 0 1 ≤ cond (may_reject || unbounded) q 1) × (cond (may_reject || unbounded) q 1 ≤ q)
kept_or_one true unbounded q valid = (valid, omega arith)
kept_or_one false true q valid = (valid, omega arith)
kept_or_one false false q valid = (omega arith, valid)

kept_or_one-le : (may_reject unbounded : Bool) (q q' : ℕ) → ((may_reject || unbounded) ≡ true → q ≤ q') → cond may_reject 0 1 ≤ q' → cond (may_reject || unbounded) q 1 ≤ q'
kept_or_one-le true unbounded q q' if_kept valid = if_kept refl
kept_or_one-le false true q q' if_kept valid = if_kept refl
kept_or_one-le false false q q' if_kept valid = valid

smallest-shape : (plan : Plan) → shape (smallest plan) ≡ shape plan
smallest-shape plan = ap (λ (pools : List Pool). record plan { pools = pools }) (map-twice bare smallest_pool plan.pools)

smallest_at : (plan : Plan) (p : ℕ) → p < length plan.pools → pool_at (smallest plan) p ≡ smallest_pool (pool_at plan p)
smallest_at plan p inside = changed_at smallest_pool plan.pools p no_pool no_pool inside

pub smallest_is_well_formed : (plan : Plan) → IsWellFormed plan → IsWellFormed (smallest plan)
smallest_is_well_formed plan well = well_formed_changed plan (smallest plan) well (outline_of_shape plan (smallest plan) (smallest-shape plan)) (sized_from_places (smallest plan).pools each)
  where
    each : (p : ℕ) → p < length (smallest plan).pools → HasSizes (pool_at (smallest plan) p)
    each p there =
        let as_many = length-changed smallest_pool plan.pools in
        let declared = sizes_at plan p well (omega arith) in
        let is = smallest_at plan p (omega arith) in
        let core = ap (λ (pool : Pool). pool.core) is in
        let max = ap (λ (pool : Pool). pool.max) is in
        let queue = ap (λ (pool : Pool). pool.queue) is in
        let pool = pool_at plan p in
        let kept : (least_queue pool ≤ cond (needs_no_bound pool) pool.queue 1) × (cond (needs_no_bound pool) pool.queue 1 ≤ pool.queue) = kept_or_one pool.may_reject pool.unbounded pool.queue declared.queue in
        let small = kept_core pool.core_timeout pool.core declared.core in
        record {
          core = omega (arith, core, small.0);
          most_core = omega (arith, core, small.1, declared.most_core);
          max = omega (arith, core, max, small.1, declared.max);
          most_max = max_kept pool (pool_at (smallest plan) p) max (ap (λ (any : Pool). any.core_timeout) is) (ap (λ (any : Pool). any.unbounded) is) declared.most_max;
          queue = least_queue_kept (pool_at plan p) (pool_at (smallest plan) p) (pool_at (smallest plan) p).queue (ap (λ (pool : Pool). pool.may_reject) is) (omega (arith, kept.0));
          most_queue = omega (arith, kept.1, declared.most_queue);
        }

-- the smallest plan has the queues of pools that need no bound
smallest_keeps_queues : (plan : Plan) → KeepsQueues plan (smallest plan)
smallest_keeps_queues plan = record { same_queue = at_pool }
  where
    at_pool : (p : ℕ) → needs_no_bound (pool_at plan p) ≡ true → (pool_at (smallest plan) p).queue ≡ (pool_at plan p).queue
    at_pool p none = elim (cases_lt p (length plan.pools)) [
      | inl inside ↦ ap (λ (pool : Pool). pool.queue) (smallest_at plan p inside) ∙ ap (λ (b : Bool). cond b (pool_at plan p).queue 1) none
      | inr past ↦
          ap (λ (pool : Pool). pool.queue) (get_or_past (smallest plan).pools p no_pool (omega (arith, length-changed smallest_pool plan.pools)))
          ∙ ap (λ (pool : Pool). pool.queue) (sym (get_or_past plan.pools p no_pool past))
    ]

-- the smallest plan has the cores whose threads may time out
smallest_keeps_cores : (plan : Plan) → KeepsCores plan (smallest plan)
smallest_keeps_cores plan = record { same_core = at_pool }
  where
    at_pool : (p : ℕ) → (pool_at plan p).core_timeout ≡ true → (pool_at (smallest plan) p).core ≡ (pool_at plan p).core
    at_pool p may_lose = elim (cases_lt p (length plan.pools)) [
      | inl inside ↦ ap (λ (pool : Pool). pool.core) (smallest_at plan p inside) ∙ ap (λ (b : Bool). cond b (pool_at plan p).core 1) may_lose
      | inr past ↦
          ap (λ (pool : Pool). pool.core) (get_or_past (smallest plan).pools p no_pool (omega (arith, length-changed smallest_pool plan.pools)))
          ∙ ap (λ (pool : Pool). pool.core) (sym (get_or_past plan.pools p no_pool past))
    ]

-- if the certificate accepts a plan that differs only in cores and queues, that plan fits the smallest plan
fits_smallest : (plan other : Plan) (cert : Cert) → IsResized plan other → accepted other cert ≡ true → IsFit (smallest plan) cert other
fits_smallest plan other cert resized is_accepted = record {
  resized = record {
    well_formed = resized.well_formed;
    same_shape = resized.same_shape ∙ sym (smallest-shape plan);
    keeps_queues = record {
      same_queue = λ p of_smallest.
          let none = sym ((has_shape plan (smallest plan) (smallest-shape plan)).boundless p) ∙ of_smallest in
          resized.keeps_queues.same_queue p none ∙ sym ((smallest_keeps_queues plan).same_queue p none);
    };
    keeps_cores = record {
      same_core = λ p of_smallest.
          let may_lose = sym ((has_shape plan (smallest plan) (smallest-shape plan)).timeout p) ∙ of_smallest in
          resized.keeps_cores.same_core p may_lose ∙ sym ((smallest_keeps_cores plan).same_core p may_lose);
    };
  };
  no_smaller = record { core = λ p. (at_pool p).0; queue = λ p. (at_pool p).1 };
  accepts = is_accepted;
}
  where
    at_pool : (p : ℕ) → ((pool_at (smallest plan) p).core ≤ (pool_at other p).core) × ((pool_at (smallest plan) p).queue ≤ (pool_at other p).queue)
    at_pool p = elim (cases_lt p (length plan.pools)) [
      | inl inside ↦ let is = smallest_at plan p inside in
          let core = ap (λ (pool : Pool). pool.core) is in
          let queue = ap (λ (pool : Pool). pool.queue) is in
          let sizes = sizes_at other p resized.well_formed (omega (arith, (has_shape plan other resized.same_shape).as_many)) in
          let least = kept_or_one-le (pool_at plan p).may_reject (pool_at plan p).unbounded (pool_at plan p).queue (pool_at other p).queue (λ none. let same = resized.keeps_queues.same_queue p none in omega (arith, same))
          (least_queue_kept (pool_at other p) (pool_at plan p) (pool_at other p).queue (sym ((has_shape plan other resized.same_shape).may_reject p)) sizes.queue) in
          let small = kept_core-le (pool_at plan p).core_timeout (pool_at plan p).core (pool_at other p).core (λ may_lose. let same = resized.keeps_cores.same_core p may_lose in omega (arith, same)) sizes.core in
          (omega (arith, core, small), omega (arith, least))
      | inr past ↦ let is = get_or_past (smallest plan).pools p no_pool (omega (arith, length-changed smallest_pool plan.pools)) in
          let core = ap (λ (pool : Pool). pool.core) is in
          let queue = ap (λ (pool : Pool). pool.queue) is in
          (omega arith, omega arith)
    ]

pub smallest_fit_is_least : SmallestFitIsLeast
smallest_fit_is_least = record {
  fits = λ plan fit cert well e.
      let fits = fitted_fits (smallest plan) fit cert (smallest_is_well_formed plan well) e in
      let keeps : KeepsQueues plan fit = record {
        same_queue = λ p none.
            fits.resized.keeps_queues.same_queue p ((has_shape plan (smallest plan) (smallest-shape plan)).boundless p ∙ none) ∙ (smallest_keeps_queues plan).same_queue p none;
      } in
      let keeps_cores : KeepsCores plan fit = record {
        same_core = λ p may_lose.
            fits.resized.keeps_cores.same_core p ((has_shape plan (smallest plan) (smallest-shape plan)).timeout p ∙ may_lose) ∙ (smallest_keeps_cores plan).same_core p may_lose;
      } in
      (record { well_formed = fits.resized.well_formed; same_shape = fits.resized.same_shape ∙ smallest-shape plan; keeps_queues = keeps; keeps_cores = keeps_cores }, fits.accepts);
  least = λ plan fit other cert e resized is_accepted. fitted_is_least (smallest plan) fit other cert e (fits_smallest plan other cert resized is_accepted);
  none = λ plan other cert well none resized is_accepted. none_fits (smallest plan) cert (smallest_is_well_formed plan well) none other (fits_smallest plan other cert resized is_accepted);
}
