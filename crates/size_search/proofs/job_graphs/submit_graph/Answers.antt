use Rattle.std.proofs.Common.{◌≡◌, List, ℕ, length, map, sym, ap, subst, ◌∙◌, arith}
use Rattle.std.proofs.lemmas.Grind.{common_steps}
use Rattle.std.proofs.lemmas.List.{take_all}
use Rattle.job_bodies.specs.Plan.{Class}
use Rattle.job_bodies.proofs.Bodies.{ordered}
use Rattle.size_search.specs.Graph.{IsClosed}
use Rattle.size_search.specs.JobGraphs.{submits_of, submit_graph}
use Rattle.size_search.proofs.JobGraphs.{submit_closed}
use Rattle.size_search.proofs.job_graphs.submit_graph.Goals as goal

pub returns-clause-closed : goal.returns-clause-closed
returns-clause-closed c =
    let plan = c.args.plan.now in
    let end = ap length c.classes-class-items.ensures.value in
    let is : c.loop-class.graph ≡ submit_graph plan =
    c.loop-class.invariant ∙ ap (map (λ (class : Class). submits_of class.body)) (take_all c.loop-class.class-index plan.classes (omega (arith, end, c.loop-class-test.false))) in
    subst (λ (graph : List (List ℕ)). IsClosed graph) (sym is) (submit_closed plan (ordered plan c.classes-class-items.ensures.well_formed))

pub loop-class-preserved : goal.loop-class-preserved
loop-class-preserved c = grind (arith, common_steps)
