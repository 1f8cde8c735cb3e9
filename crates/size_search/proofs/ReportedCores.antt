-- If a core is the reason why no plan is fitted, its pool needs a larger maximum.
use Rattle.std.proofs.Common.{◌≡◌, ◌≤◌, ◌<◌, ◌+◌, ◌⊎◌, ℕ, suc, max, inl, inr, Bool, true, false, cond, not, ◌&&◌, ◌||◌, ltb, List, [], ◌∷◌, length, get_or, Option, Some, None, refl, sym, ap, subst, ◌∙◌, arith}
use Rattle.std.specs.List.{enumerate_from}
use Rattle.std.specs.Option.{option_or, option_map}
use Rattle.std.proofs.lemmas.Bool.{and_parts, ltb-true, not-true}
use Rattle.job_bodies.specs.declared.limits.TheConstants.{MAX_SIZE}
use Rattle.job_bodies.specs.Plan.{Pool, no_pool, pool_at}
use Rattle.cert_text.specs.Cert.{pool_cert_at, cert_fits}
use Rattle.soundness.specs.declared.note.Note.{Note}
use Rattle.size_search.specs.declared.fit_error.FitError.{FitError}
use Rattle.size_search.specs.declared.fit_error.FitError.TheVariants.{Shape, Condition, Core, Queue}
use Rattle.size_search.specs.Fitted.{core_needed, raised}
use Rattle.size_search.specs.FitError.{failing_elsewhere, first_unfit, first_tight, first_short, unfit_sizes, unfit_pool, ReportedCoresNeedLargerMaxes}
use Rattle.size_search.proofs.Changes.{own_max, sizes_at}
use Rattle.size_search.proofs.RaisedPlans.{has_shape, raised-shape, raised_at}
use Rattle.size_search.proofs.LeastMaxes.{widened_at, widened_maxes_are_least}
use Rattle.size_search.proofs.FitErrors.{tight_is_no_core, short_is_no_core, neither_is_core}

-- ---- a core as the reason

-- the core of the reported pool is above its maximum, or its maximum is above the limit, and core threads never time out
abbrev AboveLimit : Pool → Type 0
AboveLimit pool = (pool.max < pool.core) ⊎ ((MAX_SIZE < pool.max) × (pool.core_timeout ≡ false))

record IsAbove (p : ℕ) (pool : Pool) (reported : ℕ) : Type 0 where
  number : p ≡ reported
  above : AboveLimit pool

core_above : (p : ℕ) (pool : Pool) (reported : ℕ) → unfit_pool p pool ≡ Some (Core reported) → IsAbove p pool reported
core_above p pool reported some = at_tests (ltb pool.max pool.core) refl (ltb MAX_SIZE pool.max && not pool.core_timeout) refl (ltb MAX_SIZE pool.queue) some
  where
    at_tests : (a : Bool) → ltb pool.max pool.core ≡ a → (b : Bool) → (ltb MAX_SIZE pool.max && not pool.core_timeout) ≡ b → (d : Bool)
        → cond (a || b) (Some (Core p)) (cond d (Some (Queue p)) None) ≡ Some (Core reported) → IsAbove p pool reported
    at_tests true is b more d e = record { number = cc; above = inl (ltb-true pool.max pool.core is) }
    at_tests false is true more d e = record { number = cc; above = let parts = and_parts (ltb MAX_SIZE pool.max) (not pool.core_timeout) more in inr (ltb-true MAX_SIZE pool.max parts.0, not-true pool.core_timeout parts.1) }
    at_tests false is false more true e = absurd cc
    at_tests false is false more false e = absurd cc

-- the list has the reported pool, whose core or maximum is too large
record IsReportedAt (n : ℕ) (pools : List Pool) (reported : ℕ) : Type 0 where
  place : ℕ
  inside : place < length pools
  is_above : IsAbove (n + place) (get_or pools place no_pool) reported

reported_at : (n : ℕ) (pools : List Pool) (reported : ℕ) → first_unfit (enumerate_from n pools) ≡ Some (Core reported) → IsReportedAt n pools reported
reported_at n [] reported some = absurd cc
reported_at n (pool ∷ pools) reported some = at_first (unfit_pool n pool) refl (λ rest. reported_at (n + 1) pools reported rest) some
  where
    first_place : n ≡ n + 0
    first_place = omega arith

    next_place : (i : ℕ) → n + 1 + i ≡ n + suc i
    next_place i = omega arith

    at_first : (found : Option FitError) → unfit_pool n pool ≡ found → (first_unfit (enumerate_from (n + 1) pools) ≡ Some (Core reported) → IsReportedAt (n + 1) pools reported)
        → option_or found (first_unfit (enumerate_from (n + 1) pools)) ≡ Some (Core reported) → IsReportedAt n (pool ∷ pools) reported
    at_first None none rest e =
        let later = rest e in
        record {
          place = suc later.place;
          inside = omega (arith, later.inside);
          is_above = subst (λ (j : ℕ). IsAbove j (get_or pools later.place no_pool) reported) (next_place later.place) later.is_above;
        }
    at_first (Some unfit) is rest e =
        record { place = 0; inside = omega arith; is_above = subst (λ (j : ℕ). IsAbove j pool reported) first_place (core_above n pool reported (is ∙ e)) }

-- a core that is a reason comes from the raised sizes
of_sizes : (fits : Bool) (found : Option Note) (sizes : Option FitError) (reported : ℕ) → cond fits (option_or (option_map Condition found) sizes) (Some Shape) ≡ Some (Core reported) → sizes ≡ Some (Core reported)
of_sizes true None sizes reported some = some
of_sizes true (Some note) sizes reported some = absurd cc
of_sizes false found sizes reported some = absurd cc

-- a core is a reason only if it is the first invalid size
of_first : (first second : Option FitError) (reported : ℕ) → (second ≡ Some (Core reported) → ⊥) → option_or first second ≡ Some (Core reported) → first ≡ Some (Core reported)
of_first None second reported no_core some = absurd (no_core some)
of_first (Some unfit) second reported no_core some = some

-- if a core is the reason, its pool needs a larger maximum
pub reported_cores_need_larger_maxes : ReportedCoresNeedLargerMaxes
reported_cores_need_larger_maxes plan other cert p well some fits =
    let pools = (raised plan cert).pools in
    let numbered = enumerate_from 0 pools in
    let sizes = of_sizes (cert_fits plan cert) (failing_elsewhere plan cert) (unfit_sizes plan cert) p some in
    let reported = reported_at 0 pools p (of_first (first_unfit numbered) (option_or (first_tight plan cert numbered) (first_short plan cert numbered)) p
    (neither_is_core (first_tight plan cert numbered) (first_short plan cert numbered) p (tight_is_no_core plan cert numbered p) (short_is_no_core plan cert numbered p)) sizes) in
    let at : reported.place ≡ p = omega (arith, reported.is_above.number) in
    let inside : p < length plan.pools = omega (arith, reported.inside, (has_shape plan (raised plan cert) (raised-shape plan cert)).as_many) in
    let is = raised_at plan cert p inside in
    let core = ap (λ (pool : Pool). pool.core) is in
    let max = ap (λ (pool : Pool). pool.max) is in
    let wide = ap (λ (pool : Pool). pool.max) (widened_at plan cert p inside) in
    let declared = sizes_at plan p well inside in
    let least = (widened_maxes_are_least.maxes plan other cert fits).no_smaller_max p in
    let needed = core_needed plan (pool_cert_at cert p).blocked in
    elim (subst (λ (i : ℕ). AboveLimit (get_or pools i no_pool)) at reported.is_above.above) [
      | inl above ↦ of_core (pool_at plan p).core_timeout (pool_at plan p).core (pool_at plan p).max needed (pool_at other p).max declared.max (omega (arith, above, core, max)) (omega (arith, least, wide))
      | inr above ↦ absurd (omega (arith, above.0, max, own_max (pool_at plan p) declared.most_max (sym ((has_shape plan (raised plan cert) (raised-shape plan cert)).timeout p) ∙ above.1)))
    ]
  where
    -- a raised core that is above the maximum needs a larger maximum
    of_core : (kept : Bool) (c m needed m' : ℕ) → c ≤ m → m < cond kept c (max c needed) → cond kept m (max m needed) ≤ m' → m < m'
    of_core true c m needed m' within above least = absurd (omega (arith, within, above))
    of_core false c m needed m' within above least = omega (arith, within, above, least)
