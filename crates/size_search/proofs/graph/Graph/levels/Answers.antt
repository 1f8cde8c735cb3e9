use Rattle.std.proofs.Common.{ℕ, List, get_or, ap, ◌∙◌, arith}
use Rattle.size_search.proofs.GraphDepths.{level-le}
use Rattle.size_search.proofs.graph.Graph.levels.Goals as goal

pub next_levels-requires : goal.next_levels-requires
next_levels-requires c = λ node.
    let level = ap (λ (levels : List ℕ). get_or levels node 0) (c.deref.ensures.value ∙ c.loop-round.invariant) in
    omega (arith, level, level-le c.args.self.now c.loop-round._round node, c.loop-round-test.true, c.len-round-end.ensures, c.requires)
