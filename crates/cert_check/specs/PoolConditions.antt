-- The test whether all conditions of a pool hold.
use Rattle.std.specs.Prelude.{ℕ, ◌&&◌, not, is_some, Bool, true, Option, Some, None}
use Rattle.job_bodies.specs.Plan.{Plan}
use Rattle.weights.specs.declared.bound.Bound.{Bound}
use Rattle.weights.specs.Row.{first_failing}
use Rattle.weights.specs.Bound.{bound_rows}
use Rattle.weights.specs.Blocked.{blocked_rows}
use Rattle.weights.specs.Ranks.{is_counted}
use Rattle.cert_text.specs.Cert.{Cert, pool_cert_at}

-- no row of the bound of pool p fails; this holds if there is no bound
abbrev pub bound_holds : Plan → ℕ → Option Bound → Bool
bound_holds plan p None = true
bound_holds plan p (Some bound) = not (is_some (first_failing (bound_rows plan p bound)))

-- no row of pool p's bound or blocked vector fails
abbrev pub pool_holds : Plan → Cert → ℕ → Bool
pool_holds plan cert p =
    bound_holds plan p (pool_cert_at cert p).bound
    && not (is_some (first_failing (blocked_rows plan p (is_counted plan cert.ranks) (pool_cert_at cert p).blocked)))
