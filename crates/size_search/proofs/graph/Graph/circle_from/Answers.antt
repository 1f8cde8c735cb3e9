use Rattle.std.proofs.Common.{⊎_elim, arith}
use Rattle.std.proofs.lemmas.Bool.{cases_lt}
use Rattle.size_search.proofs.Following.{no_circle_past}
use Rattle.size_search.proofs.graph.Graph.circle_from.Goals as goal

pub returns-clause-none : goal.returns-clause-none
returns-clause-none c =
    let graph = c.args.self.now in
    λ node from circle.
    ⊎_elim
    (λ below. c.loop-node.invariant node from below circle)
    (λ past. no_circle_past graph node (omega (arith, past, from, c.loop-node-test.false, c.len-node-end.ensures)) circle)
    (cases_lt node c.loop-node.node)
