-- The vector that bounds the queue of a pool: a standing or a lifetime vector.
use Rattle.std.specs.Prelude.{ℕ, Bool, true, false, List}
use Rattle.job_bodies.specs.Plan.{Plan, pool_at}
use Rattle.weights.specs.declared.row.Row.{Row}
use Rattle.weights.specs.declared.bound.Bound.{Bound}
use Rattle.weights.specs.declared.bound.Bound.TheVariants.{Standing, Lifetime}
use Rattle.weights.specs.Vector.{Vector}
use Rattle.weights.specs.GetReturn.{GetReturn, DoneWeight, NoWeight}
use Rattle.weights.specs.Standing.{standing_rows}
use Rattle.weights.specs.Lifetime.{lifetime_limit, lifetime_rows}

abbrev pub bound_vector : Bound → Vector
bound_vector (Standing v) = v
bound_vector (Lifetime v) = v

abbrev pub is_lifetime : Bound → Bool
is_lifetime (Standing v) = false
is_lifetime (Lifetime v) = true

abbrev pub bound_get_return : Bound → GetReturn
bound_get_return (Standing v) = DoneWeight
bound_get_return (Lifetime v) = NoWeight

-- the limit of the total of a bound of pool p, if the queue of p is bounded. For a standing vector, it is the capacity of the
-- queue. For a lifetime vector, it is the number of jobs that p accepts before it can refuse one.
abbrev pub bound_limit : Plan → ℕ → Bound → ℕ
bound_limit plan p (Standing v) = (pool_at plan p).queue
bound_limit plan p (Lifetime v) = lifetime_limit (pool_at plan p)

-- the conditions of the bound of pool p
abbrev pub bound_rows : Plan → ℕ → Bound → List Row
bound_rows plan p (Standing v) = standing_rows plan p v
bound_rows plan p (Lifetime v) = lifetime_rows plan p v
