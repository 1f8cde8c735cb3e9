-- Sizes with which a certificate accepts a plan.
use Rattle.std.specs.Prelude.{◌≡◌, ◌≤◌, ◌<◌, ◌⊎◌, ℕ, false, length, IsTrue}
use Rattle.job_bodies.specs.declared.limits.TheConstants.{MAX_SIZE}
use Rattle.job_bodies.specs.Plan.{Plan, pool_at}
use Rattle.weights.specs.Vector.{has_small_numbers}
use Rattle.cert_text.specs.Cert.{Cert}
use Rattle.soundness.specs.Accepted.{accepted}
use Rattle.size_search.specs.Fitted.{KeepsQueues, IsResized, IsNoSmaller}
use Rattle.size_search.specs.Widened.{IsWideFit, HasLeastCores}
use Rattle.size_search.specs.Steady.{steady_vector, steady_total}
use Rattle.size_search.specs.Submitted.{LosesWithoutBound}
use Rattle.size_search.specs.Waiting.{HasUnusedGet}
use Rattle.size_search.specs.Causes.{IsCause}
use Rattle.size_search.specs.declared.found.NoSizes.TheVariants.{Cause, TooLarge}
use Rattle.size_search.specs.declared.found.SizesFound.{SizesFound}
use Rattle.size_search.specs.declared.found.SizesFound.TheVariants.{Found, NotFound}

-- Call a plan *larger* if it differs from the given one only in sizes, and none is smaller.
--
-- - `fit` is larger, and the certificate accepts it.
-- - No larger plan that the certificate accepts has a smaller maximum or a smaller core than `fit`.
-- - No larger plan that the certificate accepts and that has the maximums of `fit` has a smaller queue.
-- - The queue of a pool that may reject jobs or has an unbounded queue stays unchanged.
-- - If a maximum of `fit` is larger than the plan's, it equals the core of its pool.
--
-- With larger maximums a smaller queue can be enough: in a lifetime bound, each thread that is not prestarted starts with a job,
-- which needs no place in the queue.
pub record IsSized (plan : Plan) (cert : Cert) (fit : Plan) : Type 0 where
  pub fits : IsWideFit plan cert fit
  pub no_smaller : IsNoSmaller fit plan
  pub keeps_queues : KeepsQueues plan fit
  pub least : (other : Plan) → IsResized fit other → IsNoSmaller other plan → IsTrue (accepted other cert) → IsNoSmaller other fit
  pub least_maxes : (other : Plan) → IsWideFit plan cert other → (p : ℕ) → (pool_at fit p).max ≤ (pool_at other p).max
  pub least_cores : HasLeastCores plan cert fit
  pub max_is_core : (p : ℕ) → (pool_at plan p).max < (pool_at fit p).max → (pool_at fit p).max ≡ (pool_at fit p).core

-- a weight of the plan's steady certificate is above its limit, or the certificate's total is at least the limit of sizes
abbrev pub IsSteadyTooLarge : Plan → Type 0
IsSteadyTooLarge plan = (has_small_numbers (steady_vector plan) ≡ false) ⊎ (MAX_SIZE ≤ steady_total plan)

-- the steady certificate is too large, or possibly no sizes are enough for it. The latter is so if a submit to a pool that needs
-- no bound is made forever and never got, or if no client submits a class that has a get and whose pool's core threads may time
-- out.
abbrev pub IsTooLarge : Plan → Type 0
IsTooLarge plan = IsSteadyTooLarge plan ⊎ (LosesWithoutBound plan ⊎ HasUnusedGet plan)

-- the result is true of the plan. If sizes were found, they are `IsSized`. If a cause was found, the plan has it. Otherwise
-- `IsTooLarge` holds, and the pool that the result names exists.
abbrev pub IsFound : Plan → SizesFound → Type 0
IsFound plan (Found fit cert) = IsSized plan cert fit
IsFound plan (NotFound (Cause cause)) = IsCause plan cause
IsFound plan (NotFound (TooLarge p)) = (p < length plan.pools) × IsTooLarge plan
