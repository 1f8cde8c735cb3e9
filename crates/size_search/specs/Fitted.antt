-- The least cores and queues with which a certificate accepts a plan.
use Rattle.std.specs.Prelude.{◌≡◌, ◌≤◌, ℕ, ◌+◌, ◌-◌, max, Bool, true, false, ◌&&◌, not, nat_lt, if◌then◌else◌, map, Option, Some, None, IsTrue, IsFalse}
use Rattle.std.specs.List.{list_all, enumerate_from}
use Rattle.job_bodies.specs.Plan.{Pool, Plan, pool_at, least_threads, needs_no_bound, first_workers}
use Rattle.job_bodies.specs.WellFormed.{IsWellFormed, has_valid_sizes}
use Rattle.weights.specs.declared.row.Place.{Place}
use Rattle.weights.specs.declared.row.Place.TheVariants.{Total}
use Rattle.weights.specs.declared.bound.Bound.{Bound}
use Rattle.weights.specs.declared.bound.Bound.TheVariants.{Standing, Lifetime}
use Rattle.weights.specs.Vector.{Vector, total}
use Rattle.weights.specs.Bound.{bound_limit}
use Rattle.cert_text.specs.Cert.{PoolCert, Cert, pool_cert_at, cert_fits}
use Rattle.soundness.specs.Conditions.{failing}
use Rattle.soundness.specs.Accepted.{accepted}

-- ---- the sizes that a certificate needs of a pool

-- the core that rule B2 requires, which is larger than the number of jobs that can be blocked
abbrev pub core_needed : Plan → Vector → ℕ
core_needed plan v = total plan v + 1

-- the number of the pool's `max` threads that are not prestarted. Each of them starts with a job, which needs no place in the
-- queue. The number is 0 if core threads may time out, because Java then also starts threads without a job.
abbrev pub threads_with_job : Pool → ℕ
threads_with_job pool = if pool.core_timeout then 0 else pool.max - first_workers pool

-- the queue that rule S2 or L3 requires: the total or, for a lifetime bound, the total minus the number of threads that start
-- with a job
abbrev pub queue_of_bound : Plan → Bound → Pool → ℕ
queue_of_bound plan (Standing v) pool = total plan v
queue_of_bound plan (Lifetime v) pool = total plan v - threads_with_job pool

-- the queue that the bound of a pool requires; 0 if there is no bound, or if the queue is unbounded
abbrev pub queue_needed : Plan → Option Bound → Pool → ℕ
queue_needed plan None pool = 0
queue_needed plan (Some bound) pool = if pool.unbounded then 0 else queue_of_bound plan bound pool

-- ---- the plan with raised sizes

-- the pool with its core raised to what the blocked vector needs; a core whose threads may time out stays unchanged
abbrev pub with_core : Plan → Vector → Pool → Pool
with_core plan v pool = record pool { core = if pool.core_timeout then pool.core else max pool.core (core_needed plan v) }

-- the pool with its queue raised to what the bound needs; the queue of a pool that needs no bound, because it may reject jobs or
-- its queue is unbounded, stays unchanged
abbrev pub with_queue : Plan → Option Bound → Pool → Pool
with_queue plan bound pool = record pool { queue = if needs_no_bound pool then pool.queue else max pool.queue (queue_needed plan bound pool) }

-- the pool with its core raised, and then its queue: a prestarted pool with a larger core can need a larger queue
abbrev pub raised_pool : Plan → PoolCert → Pool → Pool
raised_pool plan cert pool = with_queue plan cert.bound (with_core plan cert.blocked pool)

-- the plan with each core and each queue raised to what the certificate needs, if it is smaller. The queue of a pool that needs
-- no bound stays unchanged, and so does a core whose threads may time out.
abbrev pub raised : Plan → Cert → Plan
raised plan cert = record plan { pools = map (λ entry. raised_pool plan (pool_cert_at cert entry.0) entry.1) (enumerate_from 0 plan.pools) }

-- whether a condition at this place compares a total with a pool's sizes
abbrev pub is_total : Place → Bool
is_total Total = true
is_total _ = false

-- the certificate fits the plan, and only conditions that limit a total fail: the rules S2, L3 and B2
abbrev pub fails_only_at_totals : Plan → Cert → Bool
fails_only_at_totals plan cert = cert_fits plan cert && list_all (λ note. is_total note.place) (failing plan cert)

-- the pool's queue is as large as the bound requires
abbrev pub has_queue : Plan → Option Bound → Pool → Bool
has_queue plan bound pool = not (nat_lt pool.queue (queue_needed plan bound pool))

-- each queue of the raised plan is as large as its bound requires. Only the queue of a pool that may reject jobs can be smaller,
-- because it is not raised.
abbrev pub have_queues : Plan → Cert → Bool
have_queues plan cert = list_all (λ entry. has_queue plan (pool_cert_at cert entry.0).bound entry.1) (enumerate_from 0 (raised plan cert).pools)

-- a pool with a job in its queue has as many threads as the blocked vector requires
abbrev pub has_threads : Plan → Vector → Pool → Bool
has_threads plan v pool = not (nat_lt (least_threads pool) (core_needed plan v))

-- each pool of the raised plan has as many threads as its blocked vector requires. Only a pool whose core threads may time out
-- can have fewer.
abbrev pub have_threads : Plan → Cert → Bool
have_threads plan cert = list_all (λ entry. has_threads plan (pool_cert_at cert entry.0).blocked entry.1) (enumerate_from 0 (raised plan cert).pools)

-- the raised plan, or None in one of these cases:
--
-- - a condition fails that does not depend on cores and queues,
-- - a raised core is above the maximum of its pool, or a raised queue is above the limit,
-- - a pool may reject jobs, and its unchanged queue is smaller than its bound requires, or
-- - a job of a pool whose core threads may time out can be blocked
abbrev pub fitted : Plan → Cert → Option Plan
fitted plan cert =
    if fails_only_at_totals plan cert && list_all has_valid_sizes (raised plan cert).pools && have_queues plan cert && have_threads plan cert
    then Some (raised plan cert)
    else None

-- ---- properties of the fitted plan

-- the plan without its cores and queues
abbrev pub shape : Plan → Plan
shape plan = record plan { pools = map (λ (pool : Pool). record pool { core = 0; queue = 0 }) plan.pools }

-- each pool that needs no bound, because it may reject jobs or its queue is unbounded, has the same queue in the other plan
pub record KeepsQueues (plan other : Plan) : Type 0 where
  pub same_queue : (p : ℕ) → IsTrue (needs_no_bound (pool_at plan p)) → (pool_at other p).queue ≡ (pool_at plan p).queue

-- each core whose threads may time out is the same in the other plan
pub record KeepsCores (plan other : Plan) : Type 0 where
  pub same_core : (p : ℕ) → IsTrue (pool_at plan p).core_timeout → (pool_at other p).core ≡ (pool_at plan p).core

-- no core and no queue of the other plan is smaller than in this one
pub record IsNoSmaller (other plan : Plan) : Type 0 where
  pub core : (p : ℕ) → (pool_at plan p).core ≤ (pool_at other p).core
  pub queue : (p : ℕ) → (pool_at plan p).queue ≤ (pool_at other p).queue

-- the other plan differs from this one only in cores whose threads never time out, and in the queues of pools that need a bound
pub record IsResized (plan other : Plan) : Type 0 where
  pub well_formed : IsWellFormed other
  pub same_shape : shape other ≡ shape plan
  pub keeps_queues : KeepsQueues plan other
  pub keeps_cores : KeepsCores plan other

-- the other plan differs from this one only in larger cores, and in larger queues of pools that need a bound. The certificate
-- accepts the other plan.
pub record IsFit (plan : Plan) (cert : Cert) (other : Plan) : Type 0 where
  pub resized : IsResized plan other
  pub no_smaller : IsNoSmaller other plan
  pub accepts : IsTrue (accepted other cert)

-- `fit` fits the plan (`IsFit`), and no plan that fits has a smaller core or queue
pub record IsLeastFit (plan : Plan) (cert : Cert) (fit : Plan) : Type 0 where
  pub fits : IsFit plan cert fit
  pub least : (other : Plan) → IsFit plan cert other → IsNoSmaller other fit

-- no plan fits (`IsFit`): the certificate accepts no plan that differs from this one only in larger cores, and in larger queues
-- of pools that need a bound
abbrev pub NoneFits : Plan → Cert → Type 0
NoneFits plan cert = (other : Plan) → ¬ IsFit plan cert other

-- a fitted plan fits, and no plan that fits has a smaller core or queue; if there is no fitted plan, no plan fits
pub record FittedSizesAreLeast : Type 0 where
  pub fits : (plan fit : Plan) (cert : Cert) → IsWellFormed plan → fitted plan cert ≡ Some fit → IsFit plan cert fit
  pub least : (plan fit other : Plan) (cert : Cert) → fitted plan cert ≡ Some fit → IsFit plan cert other → IsNoSmaller other fit
  pub none : (plan : Plan) (cert : Cert) → IsWellFormed plan → fitted plan cert ≡ None → NoneFits plan cert

-- fitting does not change a plan that the certificate accepts
abbrev pub AcceptedPlansFit : Type 0
AcceptedPlansFit = (plan : Plan) (cert : Cert) → IsWellFormed plan → IsTrue (accepted plan cert) → fitted plan cert ≡ Some plan

-- the limit of the total of pool p's bound, or 0 if there is no bound. If the queue of p is unbounded, the limit has no effect.
abbrev pub limit_of : Plan → ℕ → Option Bound → ℕ
limit_of plan p None = 0
limit_of plan p (Some bound) = bound_limit plan p bound

-- a certificate that accepts a plan also accepts it with other cores and queues, if no core is smaller and no limit of a bound is
-- smaller. The limit does not matter if the queue is unbounded.
abbrev pub LargerSizesAreAccepted : Type 0
LargerSizesAreAccepted = (plan other : Plan) (cert : Cert) → shape other ≡ shape plan → IsTrue (accepted plan cert) → ((p : ℕ) → (pool_at plan p).core ≤ (pool_at other p).core)
    → ((p : ℕ) → IsFalse (pool_at plan p).unbounded → limit_of plan p (pool_cert_at cert p).bound ≤ limit_of other p (pool_cert_at cert p).bound) → IsTrue (accepted other cert)

-- ---- the least sizes, whatever sizes the plan declares

-- the pool with a core and a queue of 1. The core stays unchanged if core threads may time out, and the queue if the pool needs
-- no bound.
abbrev pub smallest_pool : Pool → Pool
smallest_pool pool = record pool { core = if pool.core_timeout then pool.core else 1; queue = if needs_no_bound pool then pool.queue else 1 }

-- the plan with cores and queues of 1. The queue of a pool that needs no bound stays unchanged, and so does a core whose threads
-- may time out.
abbrev pub smallest : Plan → Plan
smallest plan = record plan { pools = map smallest_pool plan.pools }

-- fitting the smallest plan gives the least cores and queues with which the certificate accepts the plan
pub record SmallestFitIsLeast : Type 0 where
  pub fits : (plan fit : Plan) (cert : Cert) → IsWellFormed plan → fitted (smallest plan) cert ≡ Some fit → IsResized plan fit × IsTrue (accepted fit cert)
  pub least : (plan fit other : Plan) (cert : Cert) → fitted (smallest plan) cert ≡ Some fit → IsResized plan other → IsTrue (accepted other cert) → IsNoSmaller other fit
  pub none : (plan other : Plan) (cert : Cert) → IsWellFormed plan → fitted (smallest plan) cert ≡ None → IsResized plan other → ¬ IsTrue (accepted other cert)
