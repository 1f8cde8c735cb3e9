-- The nodes before this one were added.
use Rattle.size_search.proofs.Following.{AreAdded}
use Rattle.size_search.proofs.node_set.NodeSet.add_each.Given as goal

abbrev pub invariant-loop-node : goal.invariant-loop-node
invariant-loop-node l = AreAdded l.initial.self l.self l.nodes l.node-index
