use Rattle.std.proofs.Common.{map, take}
use Rattle.conformance.specs.PoolDeviations.{Differs, unreported}
use Rattle.conformance.specs.PoolComparison.{is_reported, Adds}
use Rattle.conformance.proofs.pool_comparison.PoolComparison.push_unreported.Given as goal

abbrev pub invariant-loop-difference : goal.invariant-loop-difference
invariant-loop-difference l = Adds l.fn.found.items (map (Differs l.line l.pool) (unreported (is_reported l.self.reported l.pool) (take l.difference-index l.differences))) l.found.items
