-- The levels of the nodes of a graph. If no node is on a circle, the level of a node is the number of edges of the longest path
-- from it. So it is above the levels of its successors.
use Rattle.std.specs.Prelude.{ℕ, zero, suc, ◌+◌, max, List, [], ◌∷◌, length, map, slice_index}

-- the least level above those of the nodes
abbrev pub level_above : List ℕ → List ℕ → ℕ
level_above levels [] = 0
level_above levels (node ∷ nodes) = max (slice_index levels node + 1) (level_above levels nodes)

-- the levels, if only paths of at most n edges count
abbrev pub levels_within : List (List ℕ) → ℕ → List ℕ
levels_within graph zero = []
levels_within graph (suc n) = map (level_above (levels_within graph n)) graph

-- the levels. If no node is on a circle, no path has more edges than there are nodes, so all paths count.
abbrev pub levels_of : List (List ℕ) → List ℕ
levels_of graph = levels_within graph (length graph)
