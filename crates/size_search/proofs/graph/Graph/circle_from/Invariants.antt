-- No node from the first one to the one before this is on a circle.
use Rattle.std.proofs.Common.{◌≤◌, ◌<◌, ℕ}
use Rattle.size_search.specs.Graph.{IsOnCircle}
use Rattle.size_search.proofs.graph.Graph.circle_from.Given as goal

abbrev pub invariant-loop-node : goal.invariant-loop-node
invariant-loop-node l = (k : ℕ) → l.first ≤ k → k < l.node → ¬ IsOnCircle l.self k
