-- The causes for which no sizes are enough.
use Rattle.std.specs.Prelude.{ℕ, false, [], ◌∷◌}
use Rattle.job_bodies.specs.Plan.{Plan, class_at}
use Rattle.size_search.specs.Submitted.{IsSubmitted, NoCircle, LostByClients, LostByJobs}
use Rattle.size_search.specs.Waiting.{WaitsForItself, NoneWaitsForItself}
use Rattle.size_search.specs.declared.cause.Cause.{Cause}
use Rattle.size_search.specs.declared.cause.Cause.TheVariants.{Circle, ClientNeverGets, ClassNeverGets, PoolWaitsForItself}

-- the plan has this cause
abbrev pub IsCause : Plan → Cause → Type 0
IsCause plan (Circle k) = IsSubmitted plan ((class_at plan k).body ∷ []) k
IsCause plan (ClientNeverGets c i) = LostByClients plan false c i
IsCause plan (ClassNeverGets k i) = LostByJobs plan false k i
IsCause plan (PoolWaitsForItself p) = WaitsForItself plan p

-- the plan has no cause:
--
-- - no class submits itself,
-- - each job that repeating clients submit to a pool that needs a bound, directly or through other jobs, is got, and
-- - no pool whose core threads may time out waits for itself
pub record IsWithoutCause (plan : Plan) : Type 0 where
  pub no_circle : NoCircle plan
  pub clients_get : (c i : ℕ) → ¬ LostByClients plan false c i
  pub jobs_get : (k i : ℕ) → ¬ LostByJobs plan false k i
  pub none_waits : NoneWaitsForItself plan
