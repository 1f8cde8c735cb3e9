-- A larger maximum saves no core.
use Rattle.std.proofs.Common.{◌≡◌, ℕ, ◌+◌, ◌*◌, ◌<◌, ◌≤◌, max, inl, inr, suc, Bool, true, false, cond, List, [], ◌∷◌, length, get_or, sum_by, refl, ap, sym, subst, ◌∙◌, arith, zero-add}
use Rattle.std.specs.List.{enumerate_from}
use Rattle.std.proofs.lemmas.Bool.{cases_lt, and_parts}
use Rattle.std.proofs.lemmas.List.{get_or_past}
use Rattle.std.proofs.lemmas.List.Sums.{sum_by-cons}
use Rattle.std.proofs.Math.Nat.{mul-le-mul_left}
use Rattle.job_bodies.specs.declared.limits.TheConstants.{MAX_SIZE}
use Rattle.job_bodies.specs.Plan.{Pool, Client, Plan, no_pool, pool_at, needs_no_bound, least_threads}
use Rattle.weights.specs.Vector.{Vector, workers_weight, client_weight, total}
use Rattle.cert_text.specs.Cert.{Cert, pool_cert_at, cert_fits}
use Rattle.soundness.specs.Conditions.{failing}
use Rattle.soundness.specs.Accepted.{is_nil}
use Rattle.size_search.specs.Fitted.{core_needed, raised}
use Rattle.size_search.specs.Widened.{with_max, widened, outline, IsWideFit, HasLeastCores, without_maxes, IsLeastWide, LeavesRoom, WidenedMaxesAreLeast}
use Rattle.size_search.proofs.Numbered.{length-numbered, numbered_at, numbered_past, map-numbered}
use Rattle.size_search.proofs.Shapes.{cert_fits-pools}
use Rattle.size_search.proofs.TotalRows.{totals_where_accepted}
use Rattle.size_search.proofs.Changes.{nameplate, length-outline, pool_at-outline, same_timeout, own_max, raised-le, sizes_at}
use Rattle.size_search.proofs.RaisedPlans.{raised_at, raised_past}
use Rattle.size_search.proofs.LeastSizes.{kept_or_needed}

-- ---- totals grow with the maximums

-- the weight of the workers of all pools of the list, the first of which has number n
abbrev workers_total : Vector → ℕ → List Pool → ℕ
workers_total v n pools = sum_by (λ (entry : ℕ × Pool). workers_weight v entry.0 * entry.1.max) (enumerate_from n pools)

workers_total-grows : (v : Vector) (n : ℕ) (pools others : List Pool) → length pools ≡ length others → ((p : ℕ) → (get_or pools p no_pool).max ≤ (get_or others p no_pool).max) → workers_total v n pools ≤ workers_total v n others
workers_total-grows v n [] [] long grows = omega arith
workers_total-grows v n [] (other ∷ others) long grows = absurd (omega arith)
workers_total-grows v n (pool ∷ pools) [] long grows = absurd (omega arith)
workers_total-grows v n (pool ∷ pools) (other ∷ others) long grows =
    let term = λ (entry : ℕ × Pool). workers_weight v entry.0 * entry.1.max in
    let rest = workers_total-grows v (n + 1) pools others (omega arith) (λ p. grows (suc p)) in
    let first = mul-le-mul_left (workers_weight v n) (grows 0) in
    omega (arith, sum_by-cons term (n, pool) (enumerate_from (n + 1) pools), sum_by-cons term (n, other) (enumerate_from (n + 1) others))

-- if two plans differ only in sizes and no maximum is smaller, no total is smaller
pub total-grows : (plan other : Plan) (v : Vector) → outline other ≡ outline plan → ((p : ℕ) → (pool_at plan p).max ≤ (pool_at other p).max) → total plan v ≤ total other v
total-grows plan other v same grows =
    let as_many : length other.pools ≡ length plan.pools = sym (length-outline other) ∙ (ap (λ (any : Plan). length any.pools) same ∙ length-outline plan) in
    let of_clients = λ (clients : List Client). sum_by (λ (entry : ℕ × Client). entry.1.count * client_weight v entry.0 0) (enumerate_from 0 clients) in
    let clients : of_clients other.clients ≡ of_clients plan.clients = ap (λ (any : Plan). of_clients any.clients) same in
    omega (arith, workers_total-grows v 0 plan.pools other.pools (sym as_many) grows)

-- ---- the widened plan

-- the pool without its maximum
abbrev pub maxless : Pool → Pool
maxless pool = record pool { max = 0 }

-- the number of threads is core if core threads never time out
pub threads_are_core : (pool : Pool) → pool.core_timeout ≡ false → least_threads pool ≡ pool.core
threads_are_core pool never = ap (λ (timeout : Bool). cond timeout 1 pool.core) never

-- in each plan that satisfies `IsWideFit`, a core is at least the one that the certificate needs with the maximums of `plan`, if core threads
-- never time out
cores_least : (plan other : Plan) (cert : Cert) (p : ℕ) → p < length plan.pools → (pool_at plan p).core_timeout ≡ false → IsWideFit plan cert other → core_needed plan (pool_cert_at cert p).blocked ≤ (pool_at other p).core
cores_least plan other cert p inside never fits =
    let as_many : length other.pools ≡ length plan.pools = sym (length-outline other) ∙ (ap (λ (any : Plan). length any.pools) fits.same_outline ∙ length-outline plan) in
    let there : p < length other.pools = omega arith in
    let threads = threads_are_core (pool_at other p) (same_timeout plan other p fits.same_outline ∙ never) in
    omega (arith, (totals_where_accepted other cert fits.accepts).blocked p there, threads, (sizes_at other p fits.well_formed there).core, total-grows plan other (pool_cert_at cert p).blocked fits.same_outline fits.no_smaller_max)

pub widened-outline : (plan : Plan) (cert : Cert) → outline (widened plan cert) ≡ outline plan
widened-outline plan cert =
    ap (λ (pools : List Pool). record plan { pools = pools }) (map-numbered nameplate (λ (entry : ℕ × Pool). with_max plan (pool_cert_at cert entry.0).blocked entry.1) nameplate 0 plan.pools (λ i pool. refl))

pub widened_at : (plan : Plan) (cert : Cert) (p : ℕ) → p < length plan.pools → pool_at (widened plan cert) p ≡ with_max plan (pool_cert_at cert p).blocked (pool_at plan p)
widened_at plan cert p inside =
    numbered_at (λ (entry : ℕ × Pool). with_max plan (pool_cert_at cert entry.0).blocked entry.1) 0 plan.pools p no_pool no_pool inside
    ∙ ap (λ (j : ℕ). with_max plan (pool_cert_at cert j).blocked (pool_at plan p)) (zero-add p)

-- a size that grew was raised to what is needed
grown_to_needed : (kept : Bool) (m needed : ℕ) → m < cond kept m (max m needed) → cond kept m (max m needed) ≤ needed
grown_to_needed true m needed grew = absurd (omega (arith, grew))
grown_to_needed false m needed grew = omega (arith, grew)

maxes_least : (plan other : Plan) (cert : Cert) → IsWideFit plan cert other → IsWideFit (widened plan cert) cert other
maxes_least plan other cert fits = record {
  well_formed = fits.well_formed;
  same_outline = fits.same_outline ∙ sym (widened-outline plan cert);
  no_smaller_max = no_smaller_max;
  accepts = fits.accepts;
}
  where
    no_smaller_max : (p : ℕ) → (pool_at (widened plan cert) p).max ≤ (pool_at other p).max
    no_smaller_max p = elim (cases_lt p (length plan.pools)) [
      | inl inside ↦ let max = ap (λ (pool : Pool). pool.max) (widened_at plan cert p inside) in
          let as_many : length other.pools ≡ length plan.pools = sym (length-outline other) ∙ (ap (λ (any : Plan). length any.pools) fits.same_outline ∙ length-outline plan) in
          let least = kept_or_needed (pool_at plan p).core_timeout (pool_at plan p).max (core_needed plan (pool_cert_at cert p).blocked) (pool_at other p).max (fits.no_smaller_max p)
          (λ never. omega (arith, cores_least plan other cert p inside never fits, (sizes_at other p fits.well_formed (omega arith)).max)) in
          omega (arith, max, least)
      | inr past ↦ let max = ap (λ (pool : Pool). pool.max) (numbered_past (λ (entry : ℕ × Pool). with_max plan (pool_cert_at cert entry.0).blocked entry.1) 0 plan.pools p no_pool past) in
          omega arith
    ]

-- ---- postconditions

widened-without_maxes : (plan : Plan) (cert : Cert) → without_maxes (widened plan cert) ≡ without_maxes plan
widened-without_maxes plan cert =
    ap (λ (pools : List Pool). record plan { pools = pools })
    (map-numbered maxless (λ (entry : ℕ × Pool). with_max plan (pool_cert_at cert entry.0).blocked entry.1) maxless 0 plan.pools (λ i pool. refl))

pub widened_is_least_wide : (plan : Plan) (cert : Cert) → IsLeastWide plan cert (widened plan cert)
widened_is_least_wide plan cert = record {
  wider = record { same_but_maxes = widened-without_maxes plan cert; no_smaller_max = no_smaller_max };
  least = λ other fits. maxes_least plan other cert fits;
  needed = needed;
}
  where
    no_smaller_max : (p : ℕ) → (pool_at plan p).max ≤ (pool_at (widened plan cert) p).max
    no_smaller_max p = elim (cases_lt p (length plan.pools)) [
      | inl inside ↦ let max = ap (λ (pool : Pool). pool.max) (widened_at plan cert p inside) in
          omega (arith, max, raised-le (pool_at plan p).core_timeout (pool_at plan p).max (core_needed plan (pool_cert_at cert p).blocked))
      | inr past ↦ let none = ap (λ (pool : Pool). pool.max) (get_or_past plan.pools p no_pool past) in omega arith
    ]

    needed : (p : ℕ) → (pool_at plan p).max < (pool_at (widened plan cert) p).max → (pool_at (widened plan cert) p).max ≤ core_needed (widened plan cert) (pool_cert_at cert p).blocked
    needed p grew = elim (cases_lt p (length plan.pools)) [
      | inl inside ↦ let max = ap (λ (pool : Pool). pool.max) (widened_at plan cert p inside) in
          let raised = grown_to_needed (pool_at plan p).core_timeout (pool_at plan p).max (core_needed plan (pool_cert_at cert p).blocked) (omega (arith, grew, max)) in
          omega (arith, max, raised, total-grows plan (widened plan cert) (pool_cert_at cert p).blocked (widened-outline plan cert) no_smaller_max)
      | inr past ↦ let none = ap (λ (pool : Pool). pool.max) (numbered_past (λ (entry : ℕ × Pool). with_max plan (pool_cert_at cert entry.0).blocked entry.1) 0 plan.pools p no_pool past) in omega arith
    ]

pub widened_leaves_room : (plan : Plan) (cert : Cert) → LeavesRoom plan cert (widened plan cert)
widened_leaves_room plan cert p inside never =
    let needed = core_needed plan (pool_cert_at cert p).blocked in
    let max : (pool_at (widened plan cert) p).max ≡ max (pool_at plan p).max needed = ap (λ (pool : Pool). pool.max) (widened_at plan cert p inside) ∙ ap (λ (kept : Bool). cond kept (pool_at plan p).max (max (pool_at plan p).max needed)) never in
    omega (arith, max)

pub raised_has_least_cores : (plan : Plan) (cert : Cert) → HasLeastCores plan cert (raised plan cert)
raised_has_least_cores plan cert other fits larger p = elim (cases_lt p (length plan.pools)) [
  | inl inside ↦ let core = ap (λ (pool : Pool). pool.core) (raised_at plan cert p inside) in
      let least = kept_or_needed (pool_at plan p).core_timeout (pool_at plan p).core (core_needed plan (pool_cert_at cert p).blocked) (pool_at other p).core (larger.core p) (λ never. cores_least plan other cert p inside never fits) in
      omega (arith, core, least)
  | inr past ↦ let core = ap (λ (pool : Pool). pool.core) (raised_past plan cert p past) in omega (arith, larger.core p)
]

pub widened_maxes_are_least : WidenedMaxesAreLeast
widened_maxes_are_least = record {
  cores = λ plan other cert p inside never fits. cores_least plan other cert p inside never fits;
  maxes = λ plan other cert fits. maxes_least plan other cert fits;
}

-- ---- plans that fit the widened one

pub length-widened : (plan : Plan) (cert : Cert) → length (widened plan cert).pools ≡ length plan.pools
length-widened plan cert = length-numbered (λ (entry : ℕ × Pool). with_max plan (pool_cert_at cert entry.0).blocked entry.1) 0 plan.pools

-- the certificate fits the plan if it accepts a plan that differs only in sizes
pub wide_fit_fits : (plan other : Plan) (cert : Cert) → IsWideFit plan cert other → cert_fits plan cert ≡ true
wide_fit_fits plan other cert fits =
    sym (cert_fits-pools plan (outline plan).pools cert (length-outline plan) (λ p. ap needs_no_bound (pool_at-outline plan p)))
    ∙ (sym (ap (λ (any : Plan). cert_fits any cert) fits.same_outline)
    ∙ (cert_fits-pools other (outline other).pools cert (length-outline other) (λ p. ap needs_no_bound (pool_at-outline other p)) ∙ (and_parts (cert_fits other cert) (is_nil (failing other cert)) fits.accepts).0))

-- if some plan satisfies `IsWideFit`, no maximum of the widened plan is above the limit, except where core threads may time out
pub wide_fit_has_room : (plan other : Plan) (cert : Cert) (p : ℕ) → IsWideFit plan cert other → p < length (widened plan cert).pools → (pool_at (widened plan cert) p).core_timeout ≡ false → (pool_at (widened plan cert) p).max ≤ MAX_SIZE
wide_fit_has_room plan other cert p fits there never =
    let as_many : length other.pools ≡ length plan.pools = sym (length-outline other) ∙ (ap (λ (any : Plan). length any.pools) fits.same_outline ∙ length-outline plan) in
    let inside : p < length other.pools = subst (λ (n : ℕ). p < n) (length-widened plan cert ∙ sym as_many) there in
    let own : (pool_at other p).core_timeout ≡ false = same_timeout plan other p fits.same_outline ∙ (sym (same_timeout plan (widened plan cert) p (widened-outline plan cert)) ∙ never) in
    omega (arith, (maxes_least plan other cert fits).no_smaller_max p, own_max (pool_at other p) (sizes_at other p fits.well_formed inside).most_max own)
