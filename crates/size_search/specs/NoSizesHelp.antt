-- Plans for which no sizes are enough.
use Rattle.std.specs.Prelude.{◌≡◌, ◌<◌, ◌↔◌, ℕ, IsTrue}
use Rattle.job_bodies.specs.declared.limits.TheConstants.{MAX_SIZE}
use Rattle.job_bodies.specs.Plan.{Plan}
use Rattle.job_bodies.specs.WellFormed.{IsWellFormed}
use Rattle.weights.specs.Vector.{has_small_numbers}
use Rattle.cert_text.specs.Cert.{Cert}
use Rattle.soundness.specs.Accepted.{accepted}
use Rattle.size_search.specs.Widened.{outline}
use Rattle.size_search.specs.Submitted.{LosesWithoutBound}
use Rattle.size_search.specs.Waiting.{GetsAreUsed}
use Rattle.size_search.specs.Steady.{steady_vector, steady_total}
use Rattle.size_search.specs.declared.cause.Cause.TheVariants.{Circle, ClientNeverGets, ClassNeverGets, PoolWaitsForItself}
use Rattle.size_search.specs.Causes.{IsCause, IsWithoutCause}

-- no certificate accepts the plan, nor any plan that differs from it only in its sizes
abbrev pub IsBeyondSizes : Plan → Type 0
IsBeyondSizes plan = (other : Plan) (cert : Cert) → IsWellFormed other → outline other ≡ outline plan → ¬ IsTrue (accepted other cert)

-- no sizes help a plan with one of these causes
pub record NoSizesHelp : Type 0 where
  -- a class submits itself, directly or through other classes
  pub circle : (plan : Plan) (k : ℕ) → IsCause plan (Circle k) → IsBeyondSizes plan
  -- clients of a kind that repeats never get a job that they submit to a pool that needs a bound
  pub client_never_gets : (plan : Plan) (c i : ℕ) → IsCause plan (ClientNeverGets c i) → IsBeyondSizes plan
  -- jobs that repeating clients submit, directly or through other jobs, never get a job that they submit to a pool that needs a
  -- bound
  pub class_never_gets : (plan : Plan) (k i : ℕ) → IsCause plan (ClassNeverGets k i) → IsBeyondSizes plan
  -- the last thread of a pool whose core threads may time out can wait until a job of the pool ends
  pub pool_waits_for_itself : (plan : Plan) (p : ℕ) → IsCause plan (PoolWaitsForItself p) → IsBeyondSizes plan

-- ---- plans without a cause

-- the plan has sizes with which some certificate accepts it
pub record HasSizes (plan : Plan) : Type 0 where
  pub other : Plan
  pub cert : Cert
  pub well_formed : IsWellFormed other
  pub same_outline : outline other ≡ outline plan
  pub accepts : IsTrue (accepted other cert)

-- sizes with which some certificate accepts the plan exist exactly when the plan has no cause. The premises are:
--
-- - the steady weights are within their limit,
-- - the steady total is below the limit of sizes,
-- - each job that repeating clients submit to a pool that needs no bound, directly or through other jobs, is got, and
-- - clients submit each class that has a get and whose pool's core threads may time out
abbrev pub SizesExist : Type 0
SizesExist = (plan : Plan) → IsWellFormed plan → IsTrue (has_small_numbers (steady_vector plan)) → steady_total plan < MAX_SIZE → ¬ LosesWithoutBound plan → GetsAreUsed plan → HasSizes plan ↔ IsWithoutCause plan
