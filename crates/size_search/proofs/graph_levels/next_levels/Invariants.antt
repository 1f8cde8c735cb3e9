-- The nodes before this one have their levels.
use Rattle.std.proofs.Common.{◌≡◌, map, take}
use Rattle.size_search.specs.Levels.{level_above}
use Rattle.size_search.proofs.graph_levels.next_levels.Given as goal

abbrev pub invariant-loop-node : goal.invariant-loop-node
invariant-loop-node l = l.next.items ≡ map (level_above l.levels) (take l.node l.graph)
