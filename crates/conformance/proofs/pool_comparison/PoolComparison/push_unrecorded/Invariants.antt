use Rattle.std.proofs.Common.{take}
use Rattle.std.specs.List.{filter_map, enumerate_from}
use Rattle.conformance.specs.PoolDeviations.{unrecorded_at}
use Rattle.conformance.specs.PoolComparison.{has_name, Adds}
use Rattle.conformance.proofs.pool_comparison.PoolComparison.push_unrecorded.Given as goal

abbrev pub invariant-loop-number : goal.invariant-loop-number
invariant-loop-number l = Adds l.fn.found.items (filter_map (unrecorded_at (has_name l.self.named)) (take l.number (enumerate_from 0 l.plan.pools))) l.found.items
