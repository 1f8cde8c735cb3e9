-- The levels are those after this number of rounds.
use Rattle.std.proofs.Common.{◌≡◌}
use Rattle.size_search.specs.Levels.{levels_within}
use Rattle.size_search.proofs.graph.Graph.levels.Given as goal

abbrev pub invariant-loop-round : goal.invariant-loop-round
invariant-loop-round l = l.levels.items ≡ levels_within l.self l._round
