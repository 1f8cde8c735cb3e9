-- The set is that after this number of rounds.
use Rattle.size_search.proofs.Following.{IsFollowed}
use Rattle.size_search.proofs.node_set.NodeSet.add_all.Given as goal

abbrev pub invariant-loop-round : goal.invariant-loop-round
invariant-loop-round l = IsFollowed l.graph l.initial.self l.self l._round
