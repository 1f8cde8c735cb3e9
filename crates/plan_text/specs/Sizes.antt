-- The sizes of a pool, given the values of its keys.
use Rattle.std.specs.Prelude.{ℕ, ◌+◌, Bool, true, false, if◌then◌else◌, Option, None, Some, unwrap_or}
use Rattle.job_bodies.specs.declared.limits.TheConstants.{MAX_SIZE, MAX_THREADS}
use Rattle.job_bodies.specs.WellFormed.{is_within}
use Rattle.plan_text.specs.declared.sizes.Sizes.{Sizes}

-- the maximum of a pool with an unbounded queue; a `max` of None means the text `unbounded`. If `max` is a number that is not
-- from core to MAX_SIZE, the result is MAX_SIZE + 1, so that it is a fault as in any other pool. Otherwise, if core threads may
-- time out, the result is `max`, or MAX_THREADS for None. Otherwise `max` has no effect, and the result is core.
abbrev pub max_over_unbounded : ℕ → Bool → Option ℕ → ℕ
max_over_unbounded core core_timeout None = if core_timeout then MAX_THREADS else core
max_over_unbounded core core_timeout (Some max) =
    if is_within core MAX_SIZE max then (if core_timeout then max else core) else MAX_SIZE + 1

-- the sizes of a pool, given the values of its keys; a `max` or a `queue` of None means the text `unbounded`. If the queue has
-- a capacity, a `max` of None becomes a number that is out of range.
abbrev pub sizes_of : ℕ → Bool → Option ℕ → Option ℕ → Sizes
sizes_of core core_timeout max (Some queue) = record { max = unwrap_or max (MAX_SIZE + 1); queue = queue; unbounded = false }
sizes_of core core_timeout max None = record { max = max_over_unbounded core core_timeout max; queue = MAX_SIZE; unbounded = true }
