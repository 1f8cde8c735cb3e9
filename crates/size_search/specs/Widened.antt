-- Plans whose maximums were raised to the cores that a certificate needs.
use Rattle.std.specs.Prelude.{◌≡◌, ◌≤◌, ◌<◌, ℕ, max, if◌then◌else◌, map, length, IsTrue, IsFalse}
use Rattle.std.specs.List.{enumerate_from}
use Rattle.job_bodies.specs.Plan.{Pool, Plan, pool_at}
use Rattle.job_bodies.specs.WellFormed.{IsWellFormed}
use Rattle.weights.specs.Vector.{Vector}
use Rattle.cert_text.specs.Cert.{Cert, pool_cert_at}
use Rattle.soundness.specs.Accepted.{accepted}
use Rattle.size_search.specs.Fitted.{core_needed, IsNoSmaller}

-- the pool with its maximum raised to the core that the blocked vector needs; the maximum stays unchanged if core threads may
-- time out
abbrev pub with_max : Plan → Vector → Pool → Pool
with_max plan v pool = record pool { max = if pool.core_timeout then pool.max else max pool.max (core_needed plan v) }

-- the plan with each maximum raised to the core that the certificate needs, unless core threads may time out. If that increases
-- totals, still larger maximums can be needed.
abbrev pub widened : Plan → Cert → Plan
widened plan cert = record plan { pools = map (λ entry. with_max plan (pool_cert_at cert entry.0).blocked entry.1) (enumerate_from 0 plan.pools) }

-- the plan without its sizes
abbrev pub outline : Plan → Plan
outline plan = record plan { pools = map (λ (pool : Pool). record pool { core = 0; max = 0; queue = 0 }) plan.pools }

-- the certificate accepts the other plan. This plan differs from the first one only in its sizes, and has no smaller maximum.
pub record IsWideFit (plan : Plan) (cert : Cert) (other : Plan) : Type 0 where
  pub well_formed : IsWellFormed other
  pub same_outline : outline other ≡ outline plan
  pub no_smaller_max : (p : ℕ) → (pool_at plan p).max ≤ (pool_at other p).max
  pub accepts : IsTrue (accepted other cert)

-- `fit` has the least cores. Compare it with any plan that satisfies `IsWideFit`, and whose cores and queues are no smaller than
-- this plan's: no core of that plan is smaller. So a larger maximum never allows a smaller core.
abbrev pub HasLeastCores : Plan → Cert → Plan → Type 0
HasLeastCores plan cert fit = (other : Plan) → IsWideFit plan cert other → IsNoSmaller other plan → (p : ℕ) → (pool_at fit p).core ≤ (pool_at other p).core

-- no plan satisfies `IsWideFit`: the certificate accepts no plan that differs only in sizes and has no smaller maximum
abbrev pub NoneFitsWide : Plan → Cert → Type 0
NoneFitsWide plan cert = (other : Plan) → ¬ IsWideFit plan cert other

-- ---- properties of the widened plan

-- the plan without its maximums
abbrev pub without_maxes : Plan → Plan
without_maxes plan = record plan { pools = map (λ (pool : Pool). record pool { max = 0 }) plan.pools }

-- the other plan differs from this one only in larger maximums
pub record IsWider (plan other : Plan) : Type 0 where
  pub same_but_maxes : without_maxes other ≡ without_maxes plan
  pub no_smaller_max : (p : ℕ) → (pool_at plan p).max ≤ (pool_at other p).max

-- `wide` differs from the plan only in larger maximums, and none is larger than necessary:
--
-- - every plan that satisfies `IsWideFit` for the plan satisfies it for `wide`, and
-- - a maximum that is larger than the plan's is at most the core that its pool needs
pub record IsLeastWide (plan : Plan) (cert : Cert) (wide : Plan) : Type 0 where
  pub wider : IsWider plan wide
  pub least : (other : Plan) → IsWideFit plan cert other → IsWideFit wide cert other
  pub needed : (p : ℕ) → (pool_at plan p).max < (pool_at wide p).max → (pool_at wide p).max ≤ core_needed wide (pool_cert_at cert p).blocked

-- each maximum of `wide` is at least the core that the certificate needs with the maximums of `plan`, unless core threads may
-- time out
abbrev pub LeavesRoom : Plan → Cert → Plan → Type 0
LeavesRoom plan cert wide = (p : ℕ) → p < length plan.pools → IsFalse (pool_at plan p).core_timeout → core_needed plan (pool_cert_at cert p).blocked ≤ (pool_at wide p).max

-- in each plan that satisfies `IsWideFit`, two kinds of sizes are no smaller than necessary, so a larger maximum never allows a
-- smaller core:
--
-- - each core whose threads never time out is at least the core that the certificate needs with this plan's maximums, and
-- - each maximum is at least the maximum of the widened plan
pub record WidenedMaxesAreLeast : Type 0 where
  pub cores : (plan other : Plan) (cert : Cert) (p : ℕ) → p < length plan.pools → IsFalse (pool_at plan p).core_timeout → IsWideFit plan cert other → core_needed plan (pool_cert_at cert p).blocked ≤ (pool_at other p).core
  pub maxes : (plan other : Plan) (cert : Cert) → IsWideFit plan cert other → IsWideFit (widened plan cert) cert other
