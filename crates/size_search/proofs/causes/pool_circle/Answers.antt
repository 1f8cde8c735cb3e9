use Rattle.std.proofs.Common.{◌≡◌, ◌∙◌, ℕ, ◌-◌, ◌<◌, ◌≤◌, List, length, ap, subst, sym, arith, rules}
use Rattle.job_bodies.specs.Plan.{Class}
use Rattle.job_bodies.proofs.Bodies.{ordered}
use Rattle.size_search.specs.Graph.{IsOnCircle}
use Rattle.size_search.specs.ByClients.{MarksSubmitted}
use Rattle.size_search.specs.Waiting.{WaitsForItself}
use Rattle.size_search.specs.JobGraphs.{pool_node, wait_graph}
use Rattle.size_search.proofs.JobGraphs.{length-waits}
use Rattle.size_search.proofs.Waits.{waits_where_circle, circle_where_waits}
use Rattle.size_search.proofs.causes.pool_circle.Goals as goal

pub returns-in-Some-clause-cause : goal.returns-in-Some-clause-cause
returns-in-Some-clause-cause c =
    let plan = c.args.plan.now in
    let node = c.in-Some.node in
    let p = node - length plan.classes in
    let marks = c.in_ok-submitted.submitted.items in
    let marked : MarksSubmitted plan marks = c.in_ok-submitted.ensures in
    let graph : c.in_ok-graph.graph ≡ wait_graph plan marks = c.in_ok-graph.ensures.graph ∙ ap (wait_graph plan) c.deref.ensures.value in
    let circle : IsOnCircle c.in_ok-graph.graph node = search rules in
    let bounds : (length plan.classes ≤ node) × (node < length c.in_ok-graph.graph) = search rules in
    let number : node ≡ pool_node plan p = omega (arith, bounds.0) in
    let inside : p < length plan.pools = omega (arith, bounds.0, bounds.1, ap length graph, length-waits plan marks) in
    let of_pool : IsOnCircle (wait_graph plan marks) (pool_node plan p) = subst (IsOnCircle (wait_graph plan marks)) number (subst (λ (g : List (List ℕ)). IsOnCircle g node) graph circle) in
    let waits = waits_where_circle plan marks p (ordered plan c.classes-classes.ensures.well_formed) (λ k j marked_too may_lose gets. (marked.submitted k).0 marked_too) inside of_pool in
    subst (λ (classes : List Class). WaitsForItself plan (node - length classes)) (sym c.classes-classes.ensures.value) waits

pub returns-clause-none : goal.returns-clause-none
returns-clause-none c = λ p waits.
    let plan = c.args.plan.now in
    let marks = c.in_ok-submitted.submitted.items in
    let marked : MarksSubmitted plan marks = c.in_ok-submitted.ensures in
    let graph : c.in_ok-graph.graph ≡ wait_graph plan marks = c.in_ok-graph.ensures.graph ∙ ap (wait_graph plan) c.deref.ensures.value in
    let none : (node : ℕ) → length plan.classes ≤ node → IsOnCircle c.in_ok-graph.graph node → ⊥ = search rules in
    none (pool_node plan p) (omega arith) (subst (λ (g : List (List ℕ)). IsOnCircle g (pool_node plan p)) (sym graph) (circle_where_waits plan marks p (ordered plan c.classes-classes.ensures.well_formed) marked waits))
