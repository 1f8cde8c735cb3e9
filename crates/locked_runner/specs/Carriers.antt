-- The threads that a run has for a pool.
use Rattle.std.specs.Prelude.{ℕ, Bool, not, ◌&&◌, ◌||◌, if◌then◌else◌}
use Rattle.job_bodies.specs.Plan.{Pool}
use Rattle.job_bodies.specs.WellFormed.{has_no_max}

-- Whether a run needs only core threads for the pool, whatever its maximum. This is so if the queue is unbounded and core
-- threads never time out. It is also so if the pool has no maximum.
abbrev pub needs_core_only : Pool → Bool
needs_core_only pool = (pool.unbounded && not pool.core_timeout) || has_no_max pool

-- the number of threads that a run has for the pool: core if that is enough, and otherwise its maximum
abbrev pub carriers : Pool → ℕ
carriers pool = if needs_core_only pool then pool.core else pool.max
