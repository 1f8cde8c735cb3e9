-- A plan with no changed size is the declared one.
use Rattle.std.proofs.Common.{◌≡◌, ℕ, ◌+◌, Bool, true, false, cond, ◌&&◌, List, [], ◌∷◌, map, zip, sum_by, refl, sym, ap, ap₂, ◌∙◌, arith}
use Rattle.std.specs.Prelude.{◌==◌}
use Rattle.std.proofs.lemmas.Bool.{eqb-true, and_parts}
use Rattle.std.proofs.lemmas.List.Sums.{sum_by-cons}
use Rattle.job_bodies.specs.Plan.{Pool, Class, Client, Plan}
use Rattle.report.specs.Sizes.{changed, any_changed, has_useless_max, pool_changes, both_changes, UnchangedSizesAreTheDeclaredPlan}

-- a size that does not change is the declared one
same_size : (declared fit : ℕ) → changed declared fit ≡ 0 → fit ≡ declared
same_size declared fit none = by_test (declared == fit) refl none
  where
    by_test : (same : Bool) → (declared == fit) ≡ same → ◌≡◌ {A = ℕ} (cond same 0 1) 0 → fit ≡ declared
    by_test true is none = sym (eqb-true declared fit is)
    by_test false is none = absurd (omega (arith, none))

-- `cond test 0 1` is 0 only if the test holds
holds : (test : Bool) → ◌≡◌ {A = ℕ} (cond test 0 1) 0 → test ≡ true
holds true none = refl
holds false none = absurd (omega (arith, none))

-- the sizes of a pool are the declared ones
abbrev AreSame : Pool → Pool → Type 0
AreSame declared fit = (fit.core ≡ declared.core) × (fit.max ≡ declared.max) × (fit.queue ≡ declared.queue)

-- if the number of changes is 0, the sizes are the declared ones, whether all changes count as one or each counts
same_sizes : (useless : Bool) (declared fit : Pool)
    → ◌≡◌ {A = ℕ} (cond useless (any_changed declared fit) (changed declared.core fit.core + changed declared.max fit.max + changed declared.queue fit.queue)) 0
    → AreSame declared fit
same_sizes true declared fit none =
    let all = holds (declared.core == fit.core && declared.max == fit.max && declared.queue == fit.queue) none in
    let parts = and_parts (declared.core == fit.core && declared.max == fit.max) (declared.queue == fit.queue) all in
    let first = and_parts (declared.core == fit.core) (declared.max == fit.max) parts.0 in
    (sym (eqb-true declared.core fit.core first.0), sym (eqb-true declared.max fit.max first.1), sym (eqb-true declared.queue fit.queue parts.1))
same_sizes false declared fit none =
    (same_size declared.core fit.core (omega (arith, none)), same_size declared.max fit.max (omega (arith, none)), same_size declared.queue fit.queue (omega (arith, none)))

-- the pool without its sizes
abbrev bare : Pool → Pool
bare pool = record pool { core = 0; max = 0; queue = 0 }

-- a pool with no changed size is the declared one
same_pool : (declared fit : Pool) → bare fit ≡ bare declared → pool_changes declared fit ≡ 0 → fit ≡ declared
same_pool declared fit same none =
    let sizes : AreSame declared fit = same_sizes (has_useless_max fit) declared fit none in
    let name : fit.name ≡ declared.name = ap (λ (pool : Pool). pool.name) same in
    let prestart : fit.prestart ≡ declared.prestart = ap (λ (pool : Pool). pool.prestart) same in
    let may_reject : fit.may_reject ≡ declared.may_reject = ap (λ (pool : Pool). pool.may_reject) same in
    let unbounded : fit.unbounded ≡ declared.unbounded = ap (λ (pool : Pool). pool.unbounded) same in
    let core_timeout : fit.core_timeout ≡ declared.core_timeout = ap (λ (pool : Pool). pool.core_timeout) same in
    by_fields declared.name fit.name declared.core fit.core declared.max fit.max declared.queue fit.queue declared.prestart fit.prestart declared.may_reject fit.may_reject
    declared.unbounded fit.unbounded declared.core_timeout fit.core_timeout name sizes.0 sizes.1 sizes.2 prestart may_reject unbounded core_timeout
  where
    pool_of : List ℕ → ℕ → ℕ → ℕ → Bool → Bool → Bool → Bool → Pool
    pool_of name core max queue prestart may_reject unbounded core_timeout =
        record { name = name; core = core; max = max; queue = queue; prestart = prestart; may_reject = may_reject; unbounded = unbounded; core_timeout = core_timeout }

    by_fields : (n n' : List ℕ) (c c' m m' q q' : ℕ) (p p' r r' u u' t t' : Bool) → n' ≡ n → c' ≡ c → m' ≡ m → q' ≡ q → p' ≡ p → r' ≡ r → u' ≡ u → t' ≡ t
        → pool_of n' c' m' q' p' r' u' t' ≡ pool_of n c m q p r u t
    by_fields n n' c c' m m' q q' p p' r r' u u' t t' name core max queue prestart may_reject unbounded core_timeout =
        rw (name, core, max, queue, prestart, may_reject, unbounded, core_timeout) refl

same_pools : (declared fit : List Pool) → map bare fit ≡ map bare declared → sum_by both_changes (zip declared fit) ≡ 0 → fit ≡ declared
same_pools [] [] same none = refl
same_pools [] (f ∷ fs) same none = absurd cc
same_pools (d ∷ ds) [] same none = absurd cc
same_pools (d ∷ ds) (f ∷ fs) same none =
    let all : pool_changes d f + sum_by both_changes (zip ds fs) ≡ 0 = sym (sum_by-cons both_changes (d, f) (zip ds fs)) ∙ none in
    let first : bare f ≡ bare d = cc in
    let rest : map bare fs ≡ map bare ds = cc in
    ap₂ (λ (pool : Pool) (pools : List Pool). pool ∷ pools) (same_pool d f first (omega (arith, all))) (same_pools ds fs rest (omega (arith, all)))

pub unchanged : UnchangedSizesAreTheDeclaredPlan
unchanged declared fit same none =
    let pools : fit.pools ≡ declared.pools = same_pools declared.pools fit.pools (ap (λ (plan : Plan). plan.pools) same) none in
    let classes : fit.classes ≡ declared.classes = ap (λ (plan : Plan). plan.classes) same in
    let clients : fit.clients ≡ declared.clients = ap (λ (plan : Plan). plan.clients) same in
    by_fields declared.pools fit.pools declared.classes fit.classes declared.clients fit.clients pools classes clients
  where
    plan_of : List Pool → List Class → List Client → Plan
    plan_of pools classes clients = record { pools = pools; classes = classes; clients = clients }

    by_fields : (p p' : List Pool) (k k' : List Class) (c c' : List Client) → p' ≡ p → k' ≡ k → c' ≡ c → plan_of p' k' c' ≡ plan_of p k c
    by_fields p p' k k' c c' pools classes clients = rw (pools, classes, clients) refl
