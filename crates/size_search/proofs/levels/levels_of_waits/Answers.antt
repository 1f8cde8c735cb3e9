use Rattle.std.proofs.Common.{◌≡◌, length, ap, arith}
use Rattle.size_search.specs.JobGraphs.{wait_graph}
use Rattle.size_search.proofs.JobGraphs.{length-waits}
use Rattle.size_search.proofs.levels.levels_of_waits.Goals as goal

pub levels-requires : goal.levels-requires
levels-requires c =
    let plan = c.args.plan.now in
    let graph : c.in_ok-graph.graph ≡ wait_graph plan c.deref.result.now = c.in_ok-graph.ensures.graph in
    omega (arith, ap length graph, length-waits plan c.deref.result.now, c.requires.few_pools, c.requires.few_classes)
