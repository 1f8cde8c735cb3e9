-- Either a plan is fitted, or there is a reason why not.
use Rattle.std.proofs.Common.{◌≡◌, ◌≤◌, ◌<◌, ◌+◌, ℕ, zero, suc, max, inl, Bool, true, false, cond, not, ◌&&◌, ◌||◌, ltb, List, [], ◌∷◌, length, get_or, Option, Some, None, refl, sym, ap, ap₂, subst, ◌∙◌, arith}
use Rattle.std.specs.List.{enumerate_from, find, list_all}
use Rattle.std.specs.Option.{option_or, option_map}
use Rattle.std.proofs.lemmas.Bool.{and_parts, and_from, ltb-false, le-ltb, false_from_ne_true}
use Rattle.support.proofs.Members.{list_all_at_In, In-get_or}
use Rattle.job_bodies.specs.declared.limits.TheConstants.{MAX_SIZE}
use Rattle.job_bodies.specs.Plan.{Pool, Plan, no_pool, pool_at}
use Rattle.job_bodies.specs.WellFormed.{has_valid_sizes, IsWellFormed}
use Rattle.cert_text.specs.Cert.{Cert, pool_cert_at, cert_fits}
use Rattle.soundness.specs.declared.note.Note.{Note}
use Rattle.soundness.specs.Conditions.{failing}
use Rattle.size_search.specs.declared.fit_error.FitError.{FitError}
use Rattle.size_search.specs.declared.fit_error.FitError.TheVariants.{Shape, Condition, Core, Queue, CoreTimeout}
use Rattle.size_search.specs.Fitted.{is_total, core_needed, raised, has_queue, have_queues, has_threads, have_threads, fails_only_at_totals, fitted, KeepsCores, IsLeastFit, NoneFits}
use Rattle.size_search.specs.Widened.{widened, NoneFitsWide}
use Rattle.size_search.specs.FitError.{failing_elsewhere, first_unfit, first_tight, first_short, unfit_sizes, unfit_pool, why_unfit, why_not_widened}
use Rattle.size_search.proofs.Changes.{same_timeout, least_queue_kept, HasMax, HasSizes, has_sizes, own_max, max_kept, raised-le, valid_from_sizes, sized_from_places, sizes_at, well_formed_changed}
use Rattle.size_search.proofs.RaisedPlans.{has_shape, raised-shape, raised_no_smaller, raised_keeps_cores}
use Rattle.size_search.proofs.LeastSizes.{raised_is_well_formed, fitted_from, least_fit, none_fits}
use Rattle.size_search.proofs.LeastMaxes.{length-widened, widened-outline, widened_at, wide_fit_fits, wide_fit_has_room}

-- ---- the first reason

-- `option_or` gives None only if both options are None
or_parts : {X : Type 0} (first second : Option X) → option_or first second ≡ None → (first ≡ None) × (second ≡ None)
or_parts None second none = (refl, none)
or_parts (Some x) second none = absurd cc

-- if there is no reason, no pool is unfit
each_not_unfit : (n : ℕ) (pools : List Pool) → first_unfit (enumerate_from n pools) ≡ None → (p : ℕ) → p < length pools → unfit_pool (n + p) (get_or pools p no_pool) ≡ None
each_not_unfit n [] none p inside = absurd (omega arith)
each_not_unfit n (pool ∷ pools) none zero inside =
    let place : n ≡ n + 0 = omega arith in
    subst (λ (j : ℕ). unfit_pool j pool ≡ None) place (or_parts (unfit_pool n pool) (first_unfit (enumerate_from (n + 1) pools)) none).0
each_not_unfit n (pool ∷ pools) none (suc p) inside =
    let place : n + 1 + p ≡ n + suc p = omega arith in
    subst (λ (j : ℕ). unfit_pool j (get_or pools p no_pool) ≡ None) place
    (each_not_unfit (n + 1) pools (or_parts (unfit_pool n pool) (first_unfit (enumerate_from (n + 1) pools)) none).1 p (omega arith))

-- if no pool is unfit, there is no reason
all_not_unfit : (n : ℕ) (pools : List Pool) → ((p q : ℕ) → p < length pools → unfit_pool q (get_or pools p no_pool) ≡ None) → first_unfit (enumerate_from n pools) ≡ None
all_not_unfit n [] each = refl
all_not_unfit n (pool ∷ pools) each = ap₂ option_or (each 0 n (omega arith)) (all_not_unfit (n + 1) pools (λ p q inside. each (suc p) q (omega arith)))

-- if there is no reason, the certificate fits the plan, and no condition or size is a reason
fit_parts : (fits : Bool) (reason : Option FitError) → cond fits reason (Some Shape) ≡ None → (fits ≡ true) × (reason ≡ None)
fit_parts true reason none = (refl, none)
fit_parts false reason none = absurd cc

no_condition : (found : Option Note) → option_map Condition found ≡ None → found ≡ None
no_condition None none = refl
no_condition (Some note) none = absurd cc

-- ---- the first other condition that fails

all_pass : {X : Type 0} (test : X → Bool) (xs : List X) → find (λ x. not (test x)) xs ≡ None → list_all test xs ≡ true
all_pass test [] none = refl
all_pass {X} test (x ∷ xs) none = at_first (test x) refl (λ later. all_pass test xs later) none
  where
    at_first : (b : Bool) → test x ≡ b → (find (λ (y : X). not (test y)) xs ≡ None → list_all test xs ≡ true) → cond (not b) (Some x) (find (λ (y : X). not (test y)) xs) ≡ None → list_all test (x ∷ xs) ≡ true
    at_first true passes rest e = and_from (test x) (list_all test xs) passes (rest e)
    at_first false fails rest e = absurd cc

none_found : {X : Type 0} (test : X → Bool) (xs : List X) → list_all test xs ≡ true → find (λ x. not (test x)) xs ≡ None
none_found test [] all = refl
none_found {X} test (x ∷ xs) all =
    let parts = and_parts (test x) (list_all test xs) all in
    ap (λ (b : Bool). cond (not b) (Some x) (find (λ (y : X). not (test y)) xs)) parts.0 ∙ none_found test xs parts.1

-- ---- sizes

-- a pool that is not unfit has its core within its maximum, its queue within the limit, and its maximum too if core threads never time out
record IsWithin (pool : Pool) : Type 0 where
  core : pool.core ≤ pool.max
  max : pool.core_timeout ≡ false → pool.max ≤ MAX_SIZE
  queue : pool.queue ≤ MAX_SIZE

-- if the test of a maximum passes, it is within the limit, unless core threads may time out
max_within : (max : ℕ) (timeout : Bool) → (ltb MAX_SIZE max && not timeout) ≡ false → timeout ≡ false → max ≤ MAX_SIZE
max_within max true passes never = absurd cc
max_within max false passes never = ltb-false MAX_SIZE max (and_true (ltb MAX_SIZE max) passes)
  where
    and_true : (b : Bool) → (b && true) ≡ false → b ≡ false
    and_true true is = is
    and_true false is = refl

within : (p : ℕ) (pool : Pool) → unfit_pool p pool ≡ None → IsWithin pool
within p pool none = at_tests (ltb pool.max pool.core) refl (ltb MAX_SIZE pool.max && not pool.core_timeout) refl (ltb MAX_SIZE pool.queue) refl none
  where
    at_tests : (a : Bool) → ltb pool.max pool.core ≡ a → (b : Bool) → (ltb MAX_SIZE pool.max && not pool.core_timeout) ≡ b → (d : Bool) → ltb MAX_SIZE pool.queue ≡ d
        → cond (a || b) (Some (Core p)) (cond d (Some (Queue p)) None) ≡ None → IsWithin pool
    at_tests true is b more d also e = absurd cc
    at_tests false is true more d also e = absurd cc
    at_tests false is false more true also e = absurd cc
    at_tests false is false more false also e = record { core = ltb-false pool.max pool.core is; max = max_within pool.max pool.core_timeout more; queue = ltb-false MAX_SIZE pool.queue also }

-- the test of a valid maximum passes
max_passes : (pool : Pool) (timeout : Bool) → pool.core_timeout ≡ timeout → HasMax pool → (ltb MAX_SIZE pool.max && not timeout) ≡ false
max_passes pool true is most = and_false (ltb MAX_SIZE pool.max)
  where
    and_false : (b : Bool) → (b && false) ≡ false
    and_false true = refl
    and_false false = refl
max_passes pool false is most = ap (λ (b : Bool). b && true) (le-ltb MAX_SIZE pool.max (own_max pool most is))

-- a pool with valid sizes is not unfit
valid_fits : (p : ℕ) (pool : Pool) → has_valid_sizes pool ≡ true → unfit_pool p pool ≡ None
valid_fits p pool valid =
    let sizes = has_sizes pool valid in
    let room = ap₂ (λ (a b : Bool). a || b) (le-ltb pool.max pool.core sizes.max) (max_passes pool pool.core_timeout refl sizes.most_max) in
    ap₂ (λ (b d : Bool). cond b (Some (Core p)) (cond d (Some (Queue p)) None)) room (le-ltb MAX_SIZE pool.queue sizes.most_queue)

-- ---- queues that are too small

-- the queue of the pool is as large as the bound of its number requires
abbrev enough_at : Plan → Cert → ℕ × Pool → Bool
enough_at plan cert entry = has_queue plan (pool_cert_at cert entry.0).bound entry.1

-- if no queue is a reason, each queue is as large as its bound requires
none_tight : (plan : Plan) (cert : Cert) (entries : List (ℕ × Pool)) → first_tight plan cert entries ≡ None → list_all (enough_at plan cert) entries ≡ true
none_tight plan cert [] none = refl
none_tight plan cert (entry ∷ entries) none = at_first (enough_at plan cert entry) refl (λ later. none_tight plan cert entries later) none
  where
    at_first : (b : Bool) → enough_at plan cert entry ≡ b → (first_tight plan cert entries ≡ None → list_all (enough_at plan cert) entries ≡ true) → cond b (first_tight plan cert entries) (Some (Queue entry.0)) ≡ None
        → list_all (enough_at plan cert) (entry ∷ entries) ≡ true
    at_first true enough rest e = and_from (enough_at plan cert entry) (list_all (enough_at plan cert) entries) enough (rest e)
    at_first false tight rest e = absurd cc

-- if each queue is as large as its bound requires, no queue is a reason
not_tight : (plan : Plan) (cert : Cert) (entries : List (ℕ × Pool)) → list_all (enough_at plan cert) entries ≡ true → first_tight plan cert entries ≡ None
not_tight plan cert [] all = refl
not_tight plan cert (entry ∷ entries) all =
    let parts = and_parts (enough_at plan cert entry) (list_all (enough_at plan cert) entries) all in
    ap (λ (b : Bool). cond b (first_tight plan cert entries) (Some (Queue entry.0))) parts.0 ∙ not_tight plan cert entries parts.1

-- a queue that is too small is never reported as a core
pub tight_is_no_core : (plan : Plan) (cert : Cert) (entries : List (ℕ × Pool)) (reported : ℕ) → first_tight plan cert entries ≡ Some (Core reported) → ⊥
tight_is_no_core plan cert [] reported some = cc
tight_is_no_core plan cert (entry ∷ entries) reported some = at_first (enough_at plan cert entry) (λ later. tight_is_no_core plan cert entries reported later) some
  where
    at_first : (b : Bool) → (first_tight plan cert entries ≡ Some (Core reported) → ⊥) → cond b (first_tight plan cert entries) (Some (Queue entry.0)) ≡ Some (Core reported) → ⊥
    at_first true rest e = rest e
    at_first false rest e = cc

-- ---- pools with too few threads

-- the pool has as many threads as the blocked vector of its number requires
abbrev threads_at : Plan → Cert → ℕ × Pool → Bool
threads_at plan cert entry = has_threads plan (pool_cert_at cert entry.0).blocked entry.1

-- if no pool is a reason, each has as many threads as its blocked vector requires
none_short : (plan : Plan) (cert : Cert) (entries : List (ℕ × Pool)) → first_short plan cert entries ≡ None → list_all (threads_at plan cert) entries ≡ true
none_short plan cert [] none = refl
none_short plan cert (entry ∷ entries) none = at_first (threads_at plan cert entry) refl (λ later. none_short plan cert entries later) none
  where
    at_first : (b : Bool) → threads_at plan cert entry ≡ b → (first_short plan cert entries ≡ None → list_all (threads_at plan cert) entries ≡ true) → cond b (first_short plan cert entries) (Some (CoreTimeout entry.0)) ≡ None
        → list_all (threads_at plan cert) (entry ∷ entries) ≡ true
    at_first true enough rest e = and_from (threads_at plan cert entry) (list_all (threads_at plan cert) entries) enough (rest e)
    at_first false short rest e = absurd cc

-- if each pool has as many threads as its blocked vector requires, none is a reason
not_short : (plan : Plan) (cert : Cert) (entries : List (ℕ × Pool)) → list_all (threads_at plan cert) entries ≡ true → first_short plan cert entries ≡ None
not_short plan cert [] all = refl
not_short plan cert (entry ∷ entries) all =
    let parts = and_parts (threads_at plan cert entry) (list_all (threads_at plan cert) entries) all in
    ap (λ (b : Bool). cond b (first_short plan cert entries) (Some (CoreTimeout entry.0))) parts.0 ∙ not_short plan cert entries parts.1

-- too few threads are never reported as a core
pub short_is_no_core : (plan : Plan) (cert : Cert) (entries : List (ℕ × Pool)) (reported : ℕ) → first_short plan cert entries ≡ Some (Core reported) → ⊥
short_is_no_core plan cert [] reported some = cc
short_is_no_core plan cert (entry ∷ entries) reported some = at_first (threads_at plan cert entry) (λ later. short_is_no_core plan cert entries reported later) some
  where
    at_first : (b : Bool) → (first_short plan cert entries ≡ Some (Core reported) → ⊥) → cond b (first_short plan cert entries) (Some (CoreTimeout entry.0)) ≡ Some (Core reported) → ⊥
    at_first true rest e = rest e
    at_first false rest e = cc

-- neither a queue that is too small nor too few threads are reported as a core
pub neither_is_core : (first second : Option FitError) (reported : ℕ) → (first ≡ Some (Core reported) → ⊥) → (second ≡ Some (Core reported) → ⊥) → option_or first second ≡ Some (Core reported) → ⊥
neither_is_core None second reported not_first not_second some = not_second some
neither_is_core (Some unfit) second reported not_first not_second some = not_first some

-- ---- the fitted plan

-- there is no reason why the plan is not fitted
record NotUnfit (plan : Plan) (cert : Cert) : Type 0 where
  fits : cert_fits plan cert ≡ true
  elsewhere : failing_elsewhere plan cert ≡ None
  sizes : first_unfit (enumerate_from 0 (raised plan cert).pools) ≡ None
  queues : have_queues plan cert ≡ true
  threads : have_threads plan cert ≡ true

not_unfit : (plan : Plan) (cert : Cert) → why_unfit plan cert ≡ None → NotUnfit plan cert
not_unfit plan cert none =
    let numbered = enumerate_from 0 (raised plan cert).pools in
    let whole = fit_parts (cert_fits plan cert) (option_or (option_map Condition (failing_elsewhere plan cert)) (unfit_sizes plan cert)) none in
    let parts = or_parts (option_map Condition (failing_elsewhere plan cert)) (unfit_sizes plan cert) whole.1 in
    let of_sizes = or_parts (first_unfit numbered) (option_or (first_tight plan cert numbered) (first_short plan cert numbered)) parts.1 in
    let others = or_parts (first_tight plan cert numbered) (first_short plan cert numbered) of_sizes.1 in
    record {
      fits = whole.0;
      elsewhere = no_condition (failing_elsewhere plan cert) parts.0;
      sizes = of_sizes.0;
      queues = none_tight plan cert numbered others.0;
      threads = none_short plan cert numbered others.1;
    }

-- a core is within the limit if it is within the same maximum, and unchanged if core threads may time out
core_low : (plan other : Plan) (p : ℕ) → HasSizes (pool_at plan p) → (pool_at other p).max ≡ (pool_at plan p).max → (pool_at other p).core ≤ (pool_at other p).max → KeepsCores plan other → (pool_at other p).core ≤ MAX_SIZE
core_low plan other p declared same within keeps = of_case (pool_at plan p).core_timeout refl
  where
    of_case : (timeout : Bool) → (pool_at plan p).core_timeout ≡ timeout → (pool_at other p).core ≤ MAX_SIZE
    of_case true is = omega (arith, keeps.same_core p is, declared.most_core)
    of_case false is = omega (arith, same, within, own_max (pool_at plan p) declared.most_max is)

-- if there is no reason, the raised plan has valid sizes
sized : (plan : Plan) (cert : Cert) → IsWellFormed plan → NotUnfit plan cert → list_all has_valid_sizes (raised plan cert).pools ≡ true
sized plan cert well found = sized_from_places (raised plan cert).pools each
  where
    each : (p : ℕ) → p < length (raised plan cert).pools → HasSizes (pool_at (raised plan cert) p)
    each p there =
        let alike = has_shape plan (raised plan cert) (raised-shape plan cert) in
        let declared = sizes_at plan p well (omega (arith, alike.as_many)) in
        let larger = raised_no_smaller plan cert in
        let limits = within (0 + p) (pool_at (raised plan cert) p) (each_not_unfit 0 (raised plan cert).pools found.sizes p there) in
        record {
          core = omega (arith, declared.core, larger.core p);
          most_core = core_low plan (raised plan cert) p declared (alike.max p) limits.core (raised_keeps_cores plan cert);
          max = limits.core;
          most_max = max_kept (pool_at plan p) (pool_at (raised plan cert) p) (alike.max p) (alike.timeout p) (alike.unbounded p) declared.most_max;
          queue = least_queue_kept (pool_at plan p) (pool_at (raised plan cert) p) (pool_at (raised plan cert) p).queue (alike.may_reject p) (omega (arith, declared.queue, larger.queue p));
          most_queue = limits.queue;
        }

-- if there is no reason, the raised plan is the fitted plan
pub fitted_where_not_unfit : (plan : Plan) (cert : Cert) → IsWellFormed plan → why_unfit plan cert ≡ None → fitted plan cert ≡ Some (raised plan cert)
fitted_where_not_unfit plan cert well none =
    let found = not_unfit plan cert none in
    fitted_from plan cert
    (and_from (cert_fits plan cert) (list_all (λ note. is_total note.place) (failing plan cert)) found.fits (all_pass (λ (note : Note). is_total note.place) (failing plan cert) found.elsewhere))
    (sized plan cert well found) found.queues found.threads

pub well_formed_where_not_unfit : (plan : Plan) (cert : Cert) → IsWellFormed plan → why_unfit plan cert ≡ None → IsWellFormed (raised plan cert)
well_formed_where_not_unfit plan cert well none = raised_is_well_formed plan cert well (sized plan cert well (not_unfit plan cert none))

-- if there is a fitted plan, there is no reason
not_unfit_where_fitted : (plan : Plan) (cert : Cert) → fails_only_at_totals plan cert ≡ true → list_all has_valid_sizes (raised plan cert).pools ≡ true → have_queues plan cert ≡ true → have_threads plan cert ≡ true → why_unfit plan cert ≡ None
not_unfit_where_fitted plan cert only_totals all_sized queues threads =
    let parts = and_parts (cert_fits plan cert) (list_all (λ note. is_total note.place) (failing plan cert)) only_totals in
    let pools = (raised plan cert).pools in
    let none = all_not_unfit 0 pools (λ p q inside. valid_fits q (get_or pools p no_pool) (list_all_at_In has_valid_sizes all_sized (In-get_or pools p no_pool inside))) in
    let others = ap₂ (λ (first second : Option FitError). option_or first second) (not_tight plan cert (enumerate_from 0 pools) queues) (not_short plan cert (enumerate_from 0 pools) threads) in
    let sizes : unfit_sizes plan cert ≡ None = ap₂ (λ (first second : Option FitError). option_or first second) none others in
    ap (λ (fits : Bool). cond fits (option_or (option_map Condition (failing_elsewhere plan cert)) (unfit_sizes plan cert)) (Some Shape)) parts.0
    ∙ ap₂ (λ (found : Option Note) (of_sizes : Option FitError). option_or (option_map Condition found) of_sizes) (none_found (λ (note : Note). is_total note.place) (failing plan cert) parts.1) sizes

-- if there is a reason, there is no fitted plan
pub none_where_unfit : (plan : Plan) (cert : Cert) (unfit : FitError) → why_unfit plan cert ≡ Some unfit → fitted plan cert ≡ None
none_where_unfit plan cert unfit some =
    let only_totals = fails_only_at_totals plan cert in
    let all_sized = list_all has_valid_sizes (raised plan cert).pools in
    let queues = have_queues plan cert in
    let threads = have_threads plan cert in
    ap (λ (b : Bool). cond b (Some (raised plan cert)) None)
    (false_from_ne_true (only_totals && all_sized && queues && threads) (λ all.
    let whole = and_parts (only_totals && all_sized && queues) threads all in
    let parts = and_parts (only_totals && all_sized) queues whole.0 in
    let front = and_parts only_totals all_sized parts.0 in
    let none = not_unfit_where_fitted plan cert front.0 front.1 parts.1 whole.1 in
    absurd cc))

-- the postcondition of `fitted`: if there is no reason, the raised plan has the least sizes
pub least_where_not_unfit : (plan : Plan) (cert : Cert) → IsWellFormed plan → why_unfit plan cert ≡ None → IsLeastFit plan cert (raised plan cert)
least_where_not_unfit plan cert well none = least_fit plan (raised plan cert) cert well (fitted_where_not_unfit plan cert well none)

pub none_fits_where_unfit : (plan : Plan) (cert : Cert) (unfit : FitError) → IsWellFormed plan → why_unfit plan cert ≡ Some unfit → NoneFits plan cert
none_fits_where_unfit plan cert unfit well some = none_fits plan cert well (none_where_unfit plan cert unfit some)

-- ---- the widened plan

-- the sizes of the widened plan's pools are valid, except for a maximum above the limit
widened_sizes : (plan : Plan) (cert : Cert) (p : ℕ) → IsWellFormed plan → p < length (widened plan cert).pools → ((pool_at (widened plan cert) p).core_timeout ≡ false → (pool_at (widened plan cert) p).max ≤ MAX_SIZE) → HasSizes (pool_at (widened plan cert) p)
widened_sizes plan cert p well there small =
    let inside : p < length plan.pools = subst (λ (n : ℕ). p < n) (length-widened plan cert) there in
    let declared = sizes_at plan p well inside in
    let is = widened_at plan cert p inside in
    let core = ap (λ (pool : Pool). pool.core) is in
    let max = ap (λ (pool : Pool). pool.max) is in
    let queue = ap (λ (pool : Pool). pool.queue) is in
    record {
      core = omega (arith, declared.core);
      most_core = omega (arith, core, declared.most_core);
      max = omega (arith, core, max, declared.max, raised-le (pool_at plan p).core_timeout (pool_at plan p).max (core_needed plan (pool_cert_at cert p).blocked));
      most_max = of_case (pool_at plan p).core_timeout refl;
      queue = least_queue_kept (pool_at plan p) (pool_at (widened plan cert) p) (pool_at (widened plan cert) p).queue (ap (λ (pool : Pool). pool.may_reject) is) (omega (arith, declared.queue));
      most_queue = omega (arith, declared.most_queue);
    }
  where
    of_case : (timeout : Bool) → (pool_at plan p).core_timeout ≡ timeout → HasMax (pool_at (widened plan cert) p)
    of_case true is =
        let inside : p < length plan.pools = subst (λ (n : ℕ). p < n) (length-widened plan cert) there in
        let at = widened_at plan cert p inside in
        let same : (pool_at (widened plan cert) p).max ≡ (pool_at plan p).max =
        ap (λ (pool : Pool). pool.max) at ∙ ap (λ (b : Bool). cond b (pool_at plan p).max (max (pool_at plan p).max (core_needed plan (pool_cert_at cert p).blocked))) is in
        max_kept (pool_at plan p) (pool_at (widened plan cert) p) same (ap (λ (pool : Pool). pool.core_timeout) at) (ap (λ (pool : Pool). pool.unbounded) at) (sizes_at plan p well inside).most_max
    of_case false is = inl (small (same_timeout plan (widened plan cert) p (widened-outline plan cert) ∙ is))

-- if the certificate fits the plan, the code returns `why_not_widened`
pub why_not_widened_is : (plan : Plan) (cert : Cert) (pools : List Pool) (found : Option FitError) → cert_fits plan cert ≡ true → pools ≡ (widened plan cert).pools → found ≡ first_unfit (enumerate_from 0 pools) → why_not_widened plan cert ≡ found
why_not_widened_is plan cert pools found fits is e =
    ap (λ (fit : Bool). cond fit (first_unfit (enumerate_from 0 (widened plan cert).pools)) (Some Shape)) fits
    ∙ (ap (λ (ps : List Pool). first_unfit (enumerate_from 0 ps)) (sym is) ∙ sym e)

-- if there is no reason, the widened plan is well-formed
pub widened_is_well_formed : (plan : Plan) (cert : Cert) → IsWellFormed plan → why_not_widened plan cert ≡ None → IsWellFormed (widened plan cert)
widened_is_well_formed plan cert well none =
    well_formed_changed plan (widened plan cert) well (widened-outline plan cert) (sized_from_places (widened plan cert).pools each)
  where
    each : (p : ℕ) → p < length (widened plan cert).pools → HasSizes (pool_at (widened plan cert) p)
    each p there =
        let whole = fit_parts (cert_fits plan cert) (first_unfit (enumerate_from 0 (widened plan cert).pools)) none in
        widened_sizes plan cert p well there (within (0 + p) (pool_at (widened plan cert) p) (each_not_unfit 0 (widened plan cert).pools whole.1 p there)).max

-- if there is a reason, no sizes are enough
pub none_fits_where_not_widened : (plan : Plan) (cert : Cert) (unfit : FitError) → IsWellFormed plan → why_not_widened plan cert ≡ Some unfit → NoneFitsWide plan cert
none_fits_where_not_widened plan cert unfit well some other fits =
    let pools = (widened plan cert).pools in
    let none = all_not_unfit 0 pools (λ p q inside. valid_fits q (get_or pools p no_pool) (valid_from_sizes (get_or pools p no_pool) (widened_sizes plan cert p well inside (wide_fit_has_room plan other cert p fits inside)))) in
    let no_reason : why_not_widened plan cert ≡ None =
    ap (λ (fit : Bool). cond fit (first_unfit (enumerate_from 0 pools)) (Some Shape)) (wide_fit_fits plan other cert fits) ∙ none in
    absurd cc
