-- The result is the greater of the highest level so far and those of the remaining nodes.
use Rattle.std.proofs.Common.{◌≡◌, max, drop}
use Rattle.size_search.specs.Levels.{level_above}
use Rattle.size_search.proofs.graph_levels.level_above.Given as goal

abbrev pub invariant-loop-node : goal.invariant-loop-node
invariant-loop-node l = max l.highest (level_above l.levels (drop l.node-index l.nodes)) ≡ level_above l.levels l.nodes
