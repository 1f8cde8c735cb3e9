-- Facts about the raised pools, which `is_tight` and `is_short` read.
use Rattle.std.proofs.Common.{◌≡◌, ℕ, ◌<◌, List, length, ap, arith}
use Rattle.job_bodies.specs.Plan.{Pool, Plan}
use Rattle.cert_text.specs.Cert.{Cert}
use Rattle.size_search.specs.Fitted.{raised}
use Rattle.size_search.proofs.RaisedPlans.{has_shape, raised-shape}

-- a raised pool has the number of a pool of the plan
pub pool_exists : (plan : Plan) (cert : Cert) (pools : List Pool) (p : ℕ) → pools ≡ (raised plan cert).pools → p < length pools → p < length plan.pools
pool_exists plan cert pools p is inside = omega (arith, ap (λ (ps : List Pool). length ps) is, (has_shape plan (raised plan cert) (raised-shape plan cert)).as_many)
