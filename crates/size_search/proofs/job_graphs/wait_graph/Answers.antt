use Rattle.std.proofs.Common.{◌≡◌, List, ℕ, sym, subst, rules}
use Rattle.job_bodies.proofs.Bodies.{ordered}
use Rattle.size_search.specs.Graph.{IsClosed}
use Rattle.size_search.specs.JobGraphs.{wait_graph}
use Rattle.size_search.proofs.JobGraphs.{wait_closed}
use Rattle.size_search.proofs.job_graphs.wait_graph.Goals as goal

pub returns-clause-closed : goal.returns-clause-closed
returns-clause-closed c =
    let plan = c.args.plan.now in
    let is : c.push_pools.new.graph ≡ wait_graph plan c.args.marks.now = search rules in
    subst (λ (graph : List (List ℕ)). IsClosed graph) (sym is) (wait_closed plan c.args.marks.now (ordered plan c.push_classes.ensures.well_formed))
