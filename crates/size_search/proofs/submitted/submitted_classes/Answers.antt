use Rattle.std.proofs.Common.{◌≡◌, List, ℕ, sym, subst, ◌∙◌}
use Rattle.size_search.specs.Graph.{AreNodes}
use Rattle.size_search.specs.JobGraphs.{client_submits, submit_graph}
use Rattle.size_search.proofs.JobGraphs.{submits_valid}
use Rattle.size_search.proofs.submitted.submitted_classes.Goals as goal

pub reached_from-requires-clause-nodes : goal.reached_from-requires-clause-nodes
reached_from-requires-clause-nodes c =
    let plan = c.args.plan.now in
    let first : c.deref.result.now ≡ client_submits plan c.args.repeating = c.deref.ensures.value ∙ c.in_ok-first.ensures in
    let graph : c.in_ok-graph.graph ≡ submit_graph plan = c.in_ok-graph.ensures.graph in
    subst (λ (g : List (List ℕ)). AreNodes g c.deref.result.now) (sym graph) (subst (AreNodes (submit_graph plan)) (sym first) (submits_valid plan c.args.repeating c.submit_graph.ensures.well_formed))
