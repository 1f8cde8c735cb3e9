-- The list has each pool before this one, with its maximum lowered to its core size.
use Rattle.std.proofs.Common.{◌≡◌, map, take}
use Rattle.diagnostics.specs.AtCore.{with_max_at_core}
use Rattle.diagnostics.proofs.lowered_maxes.pools_at_core.Given as goal

abbrev pub invariant-loop-pool : goal.invariant-loop-pool
invariant-loop-pool l = l.pools.items ≡ map with_max_at_core (take l.pool-index l.plan.pools)
