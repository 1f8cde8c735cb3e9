-- The steady certificate for pools with other sizes.
use Rattle.std.proofs.Common.{◌&&◌, ◌≡◌, ℕ, zero, suc, ◌+◌, ◌<◌, ◌≤◌, max, Bool, true, false, cond, ◌||◌, List, [], ◌∷◌, ◌++◌, length, map, flat_map, take, drop, replicate, get_or, IsTrue, refl, sym, ap, ap₂, subst, ◌∙◌, arith, inl, inr}
use Rattle.std.specs.List.{list_any, enumerate_from}
use Rattle.std.proofs.lemmas.Bool.{cases_lt}
use Rattle.std.proofs.lemmas.List.{length-map, get_or-map, get_or_past}
use Rattle.job_bodies.specs.declared.limits.TheConstants.{MAX_SIZE}
use Rattle.size_search.specs.Levels.{levels_of}
use Rattle.job_bodies.specs.Plan.{Pool, Plan, no_pool, pool_at, needs_no_bound}
use Rattle.job_bodies.specs.WellFormed.{IsWellFormed}
use Rattle.weights.specs.Vector.{Vector, has_small_numbers, total}
use Rattle.cert_text.specs.Cert.{PoolCert, Cert, no_pool_cert}
use Rattle.soundness.specs.Accepted.{accepted}
use Rattle.size_search.specs.Fitted.{shape, NoneFits}
use Rattle.size_search.specs.Widened.{outline, with_max, widened, NoneFitsWide}
use Rattle.size_search.proofs.Numbered.{map-twice}
use Rattle.size_search.proofs.Changes.{nameplate, at_least_queue, least_queue_kept, HasSizes, max_raised, raised-le, sizes_at, sized_from_places, well_formed_changed}
use Rattle.size_search.proofs.LeastMaxes.{length-widened, widened-outline, widened_at}
use Rattle.size_search.specs.Waiting.{IsSteady}
use Rattle.size_search.specs.JobGraphs.{marked_gets, class_nodes, all_marks}
use Rattle.size_search.specs.Steady.{blocked_of, part_of, pool_of, steady_vector, steady_total, steady_levels, wait_levels, steady_pool, steady_cert}
use Rattle.size_search.proofs.Accepting.{accepting}
use Rattle.size_search.proofs.SizesExist.{with_pools, clients-pools, jobs_within-pools, small-pools, total-pools, HaveSameFlags, flags_of_map, steady-pools}
use Rattle.size_search.proofs.ZeroVectors.{zero_total}
use Rattle.size_search.proofs.Fitting.{part_where_small}

-- ---- the certificate does not depend on sizes

constants : {X Y : Type 0} (y : Y) (xs zs : List X) → length xs ≡ length zs → map (λ (x : X). y) xs ≡ map (λ (x : X). y) zs
constants y [] [] same = refl
constants y [] (z ∷ zs) same = absurd (omega (arith, same))
constants y (x ∷ xs) [] same = absurd (omega (arith, same))
constants {Y = Y} y (x ∷ xs) (z ∷ zs) same = ap (λ (ys : List Y). y ∷ ys) (constants y xs zs (omega (arith, same)))

abbrev vector_of : List ℕ → List (List ℕ) → List (List ℕ) → Vector
vector_of workers classes clients = record { workers = workers; classes = classes; clients = clients }

by_rows : (w w' : List ℕ) (c c' k k' : List (List ℕ)) → w' ≡ w → c' ≡ c → k' ≡ k → vector_of w' c' k' ≡ vector_of w c k
by_rows w w' c c' k k' workers classes clients = rw (workers, classes, clients) refl

vector-pools : (plan : Plan) (pools : List Pool) → length pools ≡ length plan.pools → steady_vector (with_pools plan pools) ≡ steady_vector plan
vector-pools plan pools as_many =
    by_rows _ _ _ _ _ _ (constants zero pools plan.pools as_many) (ap (λ (v : Vector). v.classes) (jobs_within-pools plan pools (length plan.classes))) (clients-pools plan pools)

abbrev cert_of : Plan → List PoolCert → List ℕ → Cert
cert_of plan pools waits = record { pools = pools; ranks = record { pools = drop (length plan.classes) waits; reach = take (length plan.classes) waits; levels = steady_levels plan } }

-- pools with the same flags
abbrev Alike : List Pool → List Pool → Type 0
Alike pools others = (p : ℕ) → p < length pools → (needs_no_bound (get_or pools p no_pool) ≡ needs_no_bound (get_or others p no_pool)) × ((get_or pools p no_pool).core_timeout ≡ (get_or others p no_pool).core_timeout)

-- lists of pools with the same flags give the same lists, if nothing else is read
same_lists : {X : Type 0} (f : ℕ → Bool → Bool → X) (n : ℕ) (pools others : List Pool) → length pools ≡ length others → Alike pools others
    → map (λ (entry : ℕ × Pool). f entry.0 (needs_no_bound entry.1) entry.1.core_timeout) (enumerate_from n pools) ≡ map (λ (entry : ℕ × Pool). f entry.0 (needs_no_bound entry.1) entry.1.core_timeout) (enumerate_from n others)
same_lists f n [] [] long same = refl
same_lists f n [] (other ∷ others) long same = absurd (omega (arith, long))
same_lists f n (pool ∷ pools) [] long same = absurd (omega (arith, long))
same_lists {X} f n (pool ∷ pools) (other ∷ others) long same =
    ap₂ (λ (x : X) (xs : List X). x ∷ xs) (ap₂ (f n) (same 0 (omega arith)).0 (same 0 (omega arith)).1)
    (same_lists f (n + 1) pools others (omega (arith, long)) (λ p inside. same (suc p) (omega (arith, inside))))

-- pools with the same flags have the same parts
same_parts : (v : Vector) (pools others : List Pool) → length pools ≡ length others → Alike pools others → map (pool_of v) pools ≡ map (pool_of v) others
same_parts v [] [] long same = refl
same_parts v [] (other ∷ others) long same = absurd (omega (arith, long))
same_parts v (pool ∷ pools) [] long same = absurd (omega (arith, long))
same_parts v (pool ∷ pools) (other ∷ others) long same =
    ap₂ (λ (part : PoolCert) (parts : List PoolCert). part ∷ parts) (ap₂ (λ (boundless timeout : Bool). part_of v boundless (timeout && has_small_numbers v)) (same 0 (omega arith)).0 (same 0 (omega arith)).1)
    (same_parts v pools others (omega (arith, long)) (λ p inside. same (suc p) (omega (arith, inside))))

any_timeout : (pools others : List Pool) → length pools ≡ length others → Alike pools others → list_any (λ (pool : Pool). pool.core_timeout) pools ≡ list_any (λ (pool : Pool). pool.core_timeout) others
any_timeout [] [] long same = refl
any_timeout [] (other ∷ others) long same = absurd (omega (arith, long))
any_timeout (pool ∷ pools) [] long same = absurd (omega (arith, long))
any_timeout (pool ∷ pools) (other ∷ others) long same =
    ap₂ (λ (a b : Bool). a || b) (same 0 (omega arith)).1 (any_timeout pools others (omega (arith, long)) (λ p inside. same (suc p) (omega (arith, inside))))

-- the successors of a pool in the graph of waits
abbrev waits_of : Plan → ℕ → Bool → Bool → List ℕ
waits_of plan p boundless core_timeout = cond core_timeout (flat_map (marked_gets (all_marks plan) p) (enumerate_from 0 plan.classes)) []

waits-pools : (plan : Plan) (pools : List Pool) → length pools ≡ length plan.pools → Alike pools plan.pools → wait_levels (with_pools plan pools) ≡ wait_levels plan
waits-pools plan pools as_many alike =
    by_flags (any_timeout pools plan.pools as_many alike) (ap (λ (nodes : List (List ℕ)). levels_of (class_nodes plan ++ nodes)) (same_lists (waits_of plan) 0 pools plan.pools as_many alike)) as_many
  where
    by_flags : {has has' : Bool} {levels levels' : List ℕ} {count count' : ℕ} → has ≡ has' → levels ≡ levels' → count ≡ count'
        → cond has levels (replicate (length plan.classes + count) 0) ≡ cond has' levels' (replicate (length plan.classes + count') 0)
    by_flags flag same count = rw (flag, same, count) refl

pub cert-pools : (plan : Plan) (pools : List Pool) → HaveSameFlags plan pools → steady_cert (with_pools plan pools) ≡ steady_cert plan
cert-pools plan pools flags = ap₂ (cert_of plan) parts waits
  where
    alike : Alike pools plan.pools
    alike p inside = (flags.boundless p inside, flags.timeout p inside)

    parts : (steady_cert (with_pools plan pools)).pools ≡ (steady_cert plan).pools
    parts = ap (λ (v : Vector). map (pool_of v) pools) (vector-pools plan pools flags.as_many) ∙ same_parts (steady_vector plan) pools plan.pools flags.as_many alike

    waits : wait_levels (with_pools plan pools) ≡ wait_levels plan
    waits = waits-pools plan pools flags.as_many alike

-- ---- the steady certificate accepts the plan with all sizes that are enough

pub accepts_with : (plan : Plan) (pools : List Pool) → IsWellFormed (with_pools plan pools) → IsSteady plan → IsTrue (has_small_numbers (steady_vector plan)) → HaveSameFlags plan pools
    → ((p : ℕ) → p < length pools → (needs_no_bound (get_or pools p no_pool) ≡ false → steady_total plan ≤ (get_or pools p no_pool).queue) × ((get_or pools p no_pool).core_timeout ≡ false → steady_total plan < (get_or pools p no_pool).core))
    → IsTrue (accepted (with_pools plan pools) (steady_cert plan))
accepts_with plan pools well free small flags enough =
    let other = with_pools plan pools in
    let steady = accepting other well (steady-pools plan pools flags free) (small-pools plan pools small) in
    let same = total-pools plan pools in
    subst (λ (cert : Cert). IsTrue (accepted other cert)) (cert-pools plan pools flags)
    (steady.is_accepted.1 (λ p inside.
    let of_pool = enough p inside in
    (λ needs. omega (arith, same, of_pool.0 needs), λ never. omega (arith, same, of_pool.1 never))))

-- ---- sizes that are enough exist below the limit

abbrev roomy : ℕ → Pool → Pool
roomy n pool = record pool { core = cond pool.core_timeout pool.core n; max = cond pool.core_timeout pool.max (max pool.max n); queue = n }

-- the sizes of such a pool are valid
roomy_valid : (n : ℕ) (pool : Pool) → HasSizes pool → 1 ≤ n → n ≤ MAX_SIZE → HasSizes (roomy n pool)
roomy_valid n pool sizes some low = record {
  core = (of_core pool.core_timeout).0;
  most_core = (of_core pool.core_timeout).1;
  max = of_max pool.core_timeout;
  most_max = max_raised pool n (cond pool.core_timeout pool.core n) n sizes.most_max low;
  queue = at_least_queue (roomy n pool) n some;
  most_queue = low;
}
  where
    of_core : (timeout : Bool) → (1 ≤ cond timeout pool.core n) × (cond timeout pool.core n ≤ MAX_SIZE)
    of_core true = (sizes.core, sizes.most_core)
    of_core false = (some, low)

    of_max : (timeout : Bool) → cond timeout pool.core n ≤ cond timeout pool.max (max pool.max n)
    of_max true = sizes.max
    of_max false = omega arith

pub some_fit_wide : (plan : Plan) → IsWellFormed plan → IsSteady plan → IsTrue (has_small_numbers (steady_vector plan)) → steady_total plan < MAX_SIZE → NoneFitsWide plan (steady_cert plan) → ⊥
some_fit_wide plan well free small low none = none other (record { well_formed = well'; same_outline = same; no_smaller_max = larger; accepts = accepts })
  where
    n : ℕ
    n = steady_total plan + 1

    pools : List Pool
    pools = map (roomy n) plan.pools

    other : Plan
    other = with_pools plan pools

    at : (p : ℕ) → p < length pools → (get_or pools p no_pool ≡ roomy n (pool_at plan p)) × (p < length plan.pools)
    at p inside =
        let known : p < length plan.pools = omega (arith, inside, length-map plan.pools (roomy n)) in
        (get_or-map (roomy n) plan.pools p no_pool no_pool known, known)

    valid : (p : ℕ) → p < length pools → HasSizes (get_or pools p no_pool)
    valid p inside =
        let there = at p inside in
        let sizes = sizes_at plan p well there.1 in
        subst HasSizes (sym there.0) (roomy_valid n (pool_at plan p) sizes (omega arith) (omega (arith, low)))

    same : outline other ≡ outline plan
    same = ap (with_pools plan) (map-twice nameplate (roomy n) plan.pools)

    well' : IsWellFormed other
    well' = well_formed_changed plan other well same (sized_from_places pools valid)

    larger : (p : ℕ) → (pool_at plan p).max ≤ (pool_at other p).max
    larger p =
        elim (cases_lt p (length plan.pools)) [
          | inl inside ↦ omega (arith, ap (λ (pool : Pool). pool.max) (get_or-map (roomy n) plan.pools p no_pool no_pool inside), raised-le (pool_at plan p).core_timeout (pool_at plan p).max n)
          | inr past ↦ omega (arith, ap (λ (pool : Pool). pool.max) (get_or_past plan.pools p no_pool past))
        ]

    core_of : (p : ℕ) → get_or pools p no_pool ≡ roomy n (pool_at plan p) → (pool_at plan p).core_timeout ≡ false → steady_total plan < (get_or pools p no_pool).core
    core_of p is never =
        let core : (get_or pools p no_pool).core ≡ n = ap (λ (pool : Pool). pool.core) is ∙ ap (λ (b : Bool). cond b (pool_at plan p).core n) never in
        omega (arith, core)

    accepts : IsTrue (accepted other (steady_cert plan))
    accepts = accepts_with plan pools well' free small (flags_of_map plan (roomy n) (λ pool. refl) (λ pool. refl)) (λ p inside.
        let there = at p inside in
        (λ needs. omega (arith, ap (λ (pool : Pool). pool.queue) there.0), λ never. core_of p there.0 (sym (ap (λ (pool : Pool). pool.core_timeout) there.0) ∙ never)))

-- ---- a plan that was widened for the steady certificate has room for its cores

abbrev filled : ℕ → Pool → Pool
filled n pool = record pool { core = cond pool.core_timeout pool.core (max pool.core n); queue = cond (needs_no_bound pool) pool.queue (max pool.queue n) }

-- a queue that stays unchanged or is raised is a valid queue
kept_or_filled : (b : Bool) (q n m : ℕ) → q ≤ m → n ≤ m → (q ≤ cond b q (max q n)) × (cond b q (max q n) ≤ m)
kept_or_filled true q n m low also = (omega arith, low)
kept_or_filled false q n m low also = (omega arith, omega arith)

-- a core that stays unchanged or is raised is within the maximum and the limit
core_filled : (timeout : Bool) (core most n : ℕ) → core ≤ most → core ≤ MAX_SIZE → n ≤ MAX_SIZE → (timeout ≡ false → n ≤ most) → (cond timeout core (max core n) ≤ most) × (cond timeout core (max core n) ≤ MAX_SIZE)
core_filled true core most n within low also room = (within, low)
core_filled false core most n within low also room = (omega (arith, within, room refl), omega (arith, low, also))

-- if each maximum of these pools is above the total, except where core threads may time out, some plan fits the plan with these pools
room_is_left : (plan : Plan) (pools : List Pool) → IsWellFormed (with_pools plan pools) → IsSteady plan → IsTrue (has_small_numbers (steady_vector plan)) → HaveSameFlags plan pools → steady_total plan < MAX_SIZE
    → ((p : ℕ) → p < length pools → (get_or pools p no_pool).core_timeout ≡ false → steady_total plan < (get_or pools p no_pool).max) → NoneFits (with_pools plan pools) (steady_cert plan) → ⊥
room_is_left plan pools well free small flags low room none =
    none other (record {
      resized = record { well_formed = well'; same_shape = same; keeps_queues = record { same_queue = same_queue }; keeps_cores = record { same_core = same_core } };
      no_smaller = record { core = λ p. (larger p).0; queue = λ p. (larger p).1 };
      accepts = accepts;
    })
  where
    n : ℕ
    n = steady_total plan + 1

    grown : List Pool
    grown = map (filled n) pools

    other : Plan
    other = with_pools plan grown

    at : (p : ℕ) → p < length grown → (get_or grown p no_pool ≡ filled n (get_or pools p no_pool)) × (p < length pools)
    at p inside =
        let known : p < length pools = omega (arith, inside, length-map pools (filled n)) in
        (get_or-map (filled n) pools p no_pool no_pool known, known)

    filled_queue : (p : ℕ) → p < length pools → ((get_or pools p no_pool).queue ≤ (filled n (get_or pools p no_pool)).queue) × ((filled n (get_or pools p no_pool)).queue ≤ MAX_SIZE)
    filled_queue p inside =
        let pool = get_or pools p no_pool in
        let sizes = sizes_at (with_pools plan pools) p well inside in
        kept_or_filled (needs_no_bound pool) pool.queue n MAX_SIZE sizes.most_queue (omega (arith, low))

    valid : (p : ℕ) → p < length grown → HasSizes (get_or grown p no_pool)
    valid p inside =
        let there = at p inside in
        let pool = get_or pools p no_pool in
        let sizes = sizes_at (with_pools plan pools) p well there.1 in
        let core = core_filled pool.core_timeout pool.core pool.max n sizes.max sizes.most_core (omega (arith, low)) (λ never. omega (arith, room p there.1 never)) in
        subst HasSizes (sym there.0) (record {
          core = omega (arith, sizes.core, raised-le pool.core_timeout pool.core n);
          most_core = core.1;
          max = core.0;
          most_max = sizes.most_max;
          queue = least_queue_kept pool (filled n pool) (filled n pool).queue refl (omega (arith, sizes.queue, (filled_queue p there.1).0));
          most_queue = omega (arith, (filled_queue p there.1).1);
        })

    well' : IsWellFormed other
    well' = well_formed_changed (with_pools plan pools) other well (ap (with_pools plan) (map-twice nameplate (filled n) pools)) (sized_from_places grown valid)

    same : shape other ≡ shape (with_pools plan pools)
    same = ap (with_pools plan) (map-twice (λ (pool : Pool). record pool { core = 0; queue = 0 }) (filled n) pools)

    same_queue : (p : ℕ) → needs_no_bound (get_or pools p no_pool) ≡ true → (get_or grown p no_pool).queue ≡ (get_or pools p no_pool).queue
    same_queue p none =
        elim (cases_lt p (length pools)) [
          | inl inside ↦
              let pool = get_or pools p no_pool in
              ap (λ (any : Pool). any.queue) (get_or-map (filled n) pools p no_pool no_pool inside) ∙ ap (λ (b : Bool). cond b pool.queue (max pool.queue n)) none
          | inr past ↦
              ap (λ (pool : Pool). pool.queue) (get_or_past grown p no_pool (omega (arith, past, length-map pools (filled n))))
              ∙ ap (λ (pool : Pool). pool.queue) (sym (get_or_past pools p no_pool past))
        ]

    same_core : (p : ℕ) → (get_or pools p no_pool).core_timeout ≡ true → (get_or grown p no_pool).core ≡ (get_or pools p no_pool).core
    same_core p may_lose =
        elim (cases_lt p (length pools)) [
          | inl inside ↦
              let pool = get_or pools p no_pool in
              ap (λ (any : Pool). any.core) (get_or-map (filled n) pools p no_pool no_pool inside) ∙ ap (λ (b : Bool). cond b pool.core (max pool.core n)) may_lose
          | inr past ↦
              ap (λ (pool : Pool). pool.core) (get_or_past grown p no_pool (omega (arith, past, length-map pools (filled n))))
              ∙ ap (λ (pool : Pool). pool.core) (sym (get_or_past pools p no_pool past))
        ]

    larger : (p : ℕ) → ((get_or pools p no_pool).core ≤ (get_or grown p no_pool).core) × ((get_or pools p no_pool).queue ≤ (get_or grown p no_pool).queue)
    larger p =
        elim (cases_lt p (length pools)) [
          | inl inside ↦
              let is = get_or-map (filled n) pools p no_pool no_pool inside in
              let pool = get_or pools p no_pool in
              (omega (arith, ap (λ (any : Pool). any.core) is, raised-le pool.core_timeout pool.core n), omega (arith, ap (λ (any : Pool). any.queue) is, (filled_queue p inside).0))
          | inr past ↦
              let is = get_or-map (filled n) pools p no_pool no_pool in
              let none_there = get_or_past grown p no_pool (omega (arith, past, length-map pools (filled n))) in
              let none_here = get_or_past pools p no_pool past in
              (omega (arith, ap (λ (pool : Pool). pool.core) none_there, ap (λ (pool : Pool). pool.core) none_here), omega (arith, ap (λ (pool : Pool). pool.queue) none_there, ap (λ (pool : Pool). pool.queue) none_here))
        ]

    grown_flags : HaveSameFlags plan grown
    grown_flags = record {
      as_many = length-map pools (filled n) ∙ flags.as_many;
      boundless = λ p inside. ap needs_no_bound (at p inside).0 ∙ flags.boundless p (at p inside).1;
      timeout = λ p inside. ap (λ (pool : Pool). pool.core_timeout) (at p inside).0 ∙ flags.timeout p (at p inside).1;
    }

    accepts : IsTrue (accepted other (steady_cert plan))
    accepts = accepts_with plan grown well' free small grown_flags (λ p inside.
        let there = at p inside in
        let pool = get_or pools p no_pool in
        let boundless : needs_no_bound (get_or grown p no_pool) ≡ needs_no_bound pool = ap needs_no_bound there.0 in
        let timeout : (get_or grown p no_pool).core_timeout ≡ pool.core_timeout = ap (λ (any : Pool). any.core_timeout) there.0 in (
          λ needs.
              let queue : (get_or grown p no_pool).queue ≡ max pool.queue n = ap (λ (any : Pool). any.queue) there.0 ∙ ap (λ (b : Bool). cond b pool.queue (max pool.queue n)) (sym boundless ∙ needs) in
              omega (arith, queue),
          λ never.
              let core : (get_or grown p no_pool).core ≡ max pool.core n = ap (λ (any : Pool). any.core) there.0 ∙ ap (λ (b : Bool). cond b pool.core (max pool.core n)) (sym timeout ∙ never) in
              omega (arith, core),
        ))

pub some_fit_widened : (plan : Plan) → IsWellFormed plan → IsSteady plan → IsTrue (has_small_numbers (steady_vector plan)) → steady_total plan < MAX_SIZE
    → NoneFits (widened plan (steady_cert plan)) (steady_cert plan) → ⊥
some_fit_widened plan well free small low none = room_is_left plan pools well' free small flags low left none
  where
    cert : Cert
    cert = steady_cert plan

    pools : List Pool
    pools = (widened plan cert).pools

    as_many : length pools ≡ length plan.pools
    as_many = length-widened plan cert

    at : (p : ℕ) → p < length plan.pools → get_or pools p no_pool ≡ with_max plan (blocked_of (steady_vector plan) (pool_at plan p).core_timeout) (pool_at plan p)
    at p known =
        widened_at plan cert p known
        ∙ ap (λ (part : PoolCert). with_max plan part.blocked (pool_at plan p)) (get_or-map (steady_pool plan) plan.pools p no_pool no_pool_cert known ∙ part_where_small (steady_vector plan) (pool_at plan p) small)

    flags : HaveSameFlags plan pools
    flags = record {
      as_many = as_many;
      boundless = λ p inside. ap needs_no_bound (at p (omega (arith, inside, as_many)));
      timeout = λ p inside. ap (λ (pool : Pool). pool.core_timeout) (at p (omega (arith, inside, as_many)));
    }

    -- the core that the certificate needs is within the limit, whether or not the blocked vector is 0
    needed_low : (timeout : Bool) → total plan (blocked_of (steady_vector plan) timeout) + 1 ≤ MAX_SIZE
    needed_low true = omega (arith, zero_total plan (steady_vector plan))
    needed_low false = omega (arith, low)

    valid : (p : ℕ) → p < length pools → HasSizes (get_or pools p no_pool)
    valid p inside =
        let known : p < length plan.pools = omega (arith, inside, as_many) in
        let pool = pool_at plan p in
        let sizes = sizes_at plan p well known in
        let needed = total plan (blocked_of (steady_vector plan) pool.core_timeout) + 1 in
        subst HasSizes (sym (at p known)) (record {
          core = sizes.core;
          most_core = sizes.most_core;
          max = omega (arith, sizes.max, raised-le pool.core_timeout pool.max needed);
          most_max = max_raised pool needed pool.core pool.queue sizes.most_max (needed_low pool.core_timeout);
          queue = sizes.queue;
          most_queue = sizes.most_queue;
        })

    well' : IsWellFormed (with_pools plan pools)
    well' = well_formed_changed plan (widened plan cert) well (widened-outline plan cert) (sized_from_places pools valid)

    left : (p : ℕ) → p < length pools → (get_or pools p no_pool).core_timeout ≡ false → steady_total plan < (get_or pools p no_pool).max
    left p inside never =
        let known : p < length plan.pools = omega (arith, inside, as_many) in
        let pool = pool_at plan p in
        let own : pool.core_timeout ≡ false = sym (flags.timeout p inside) ∙ never in
        let raised : (get_or pools p no_pool).max ≡ max pool.max (steady_total plan + 1) =
        ap (λ (any : Pool). any.max) (at p known) ∙ ap (λ (b : Bool). cond b pool.max (max pool.max (total plan (blocked_of (steady_vector plan) b) + 1))) own in
        omega (arith, raised)
