-- The test of the standing vectors of a certificate alone.
use Rattle.std.specs.Prelude.{ℕ, ◌&&◌, not, Bool, false, Option, Some, None}
use Rattle.std.specs.List.{list_all, enumerate_from}
use Rattle.job_bodies.specs.Plan.{Plan, pool_at}
use Rattle.weights.specs.declared.bound.Bound.{Bound}
use Rattle.weights.specs.declared.bound.Bound.TheVariants.{Standing, Lifetime}
use Rattle.weights.specs.Row.{fails}
use Rattle.weights.specs.Standing.{standing_rows}
use Rattle.cert_text.specs.Cert.{Cert, cert_fits, pool_cert_at}

-- pool p must not reject jobs, and has a standing vector whose rows all hold
abbrev pub is_valid_standing_vector : Plan → ℕ → Option Bound → Bool
is_valid_standing_vector plan p (Some (Standing v)) = not (pool_at plan p).may_reject && list_all (λ row. not (fails row)) (standing_rows plan p v)
is_valid_standing_vector plan p (Some (Lifetime v)) = false
is_valid_standing_vector plan p None = false

-- the certificate fits the plan, and each pool must not reject jobs and has a standing vector whose rows all hold
abbrev pub accepted_standing : Plan → Cert → Bool
accepted_standing plan cert = cert_fits plan cert && list_all (λ entry. is_valid_standing_vector plan entry.0 (pool_cert_at cert entry.0).bound) (enumerate_from 0 plan.pools)
