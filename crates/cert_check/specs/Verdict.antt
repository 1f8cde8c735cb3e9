-- The verdict on a plan and a certificate.
use Rattle.std.specs.Prelude.{ℕ, ◌-◌, Bool, if◌then◌else◌, List, map, Option, Some, None}
use Rattle.std.specs.List.{enumerate_from}
use Rattle.job_bodies.specs.Plan.{Plan, pool_at, least_threads}
use Rattle.weights.specs.declared.bound.Bound.{Bound}
use Rattle.weights.specs.Vector.{total}
use Rattle.weights.specs.Bound.{bound_vector, bound_limit, is_lifetime}
use Rattle.cert_text.specs.Cert.{Cert, pool_cert_at}
use Rattle.soundness.specs.Accepted.{accepted}
use Rattle.cert_check.specs.declared.answer.BoundTotal.{BoundTotal}
use Rattle.cert_check.specs.declared.answer.PoolLine.{PoolLine}

-- the limit of the total of the bound of pool p, or None if its queue is unbounded
abbrev pub total_limit : Plan → ℕ → Bound → Option ℕ
total_limit plan p bound = if (pool_at plan p).unbounded then None else Some (bound_limit plan p bound)

-- the total of the bound of pool p with its limit, or None if there is no bound
abbrev pub bound_total : Plan → ℕ → Option Bound → Option BoundTotal
bound_total plan p None = None
bound_total plan p (Some bound) = Some (record { lifetime = is_lifetime bound; total = total plan (bound_vector bound); limit = total_limit plan p bound })

-- the totals of pool p's two vectors, each with its limit
abbrev pub pool_line : Plan → Cert → ℕ → PoolLine
pool_line plan cert p = record {
  bound = bound_total plan p (pool_cert_at cert p).bound;
  blocked = total plan (pool_cert_at cert p).blocked;
  limit = least_threads (pool_at plan p) - 1;
}

pub record Verdict : Type 0 where
  pub yes : Bool
  pub pools : List PoolLine

-- the verdict: yes exactly when the certificate accepts the plan, and a line for each pool
abbrev pub verdict : Plan → Cert → Verdict
verdict plan cert = record { yes = accepted plan cert; pools = map (λ entry. pool_line plan cert entry.0) (enumerate_from 0 plan.pools) }
