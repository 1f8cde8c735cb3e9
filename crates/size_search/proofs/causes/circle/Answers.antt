use Rattle.std.proofs.Common.{◌≡◌, ℕ, ◌≤◌, List, [], ◌∷◌, subst, sym, arith, rules}
use Rattle.job_bodies.specs.Plan.{class_at}
use Rattle.size_search.specs.Graph.{successors, IsOnCircle}
use Rattle.size_search.specs.JobGraphs.{submit_graph}
use Rattle.size_search.proofs.JobGraphs.{submitted_where_reached, reached_where_submitted, are_of_class}
use Rattle.size_search.proofs.causes.circle.Goals as goal

pub returns-in-Some-clause-cause : goal.returns-in-Some-clause-cause
returns-in-Some-clause-cause c =
    let plan = c.args.plan.now in
    let k = c.in-Some.class in
    let graph : c.in_ok-graph.graph ≡ submit_graph plan = c.in_ok-graph.ensures.graph in
    let circle : IsOnCircle c.in_ok-graph.graph k = search rules in
    submitted_where_reached plan ((class_at plan k).body ∷ []) (successors (submit_graph plan) k) (are_of_class plan k) (subst (λ (g : List (List ℕ)). IsOnCircle g k) graph circle)

pub returns-clause-none : goal.returns-clause-none
returns-clause-none c = λ k submitted.
    let plan = c.args.plan.now in
    let graph : c.in_ok-graph.graph ≡ submit_graph plan = c.in_ok-graph.ensures.graph in
    let none : (node : ℕ) → 0 ≤ node → IsOnCircle c.in_ok-graph.graph node → ⊥ = search rules in
    none k (omega arith) (subst (λ (g : List (List ℕ)). IsOnCircle g k) (sym graph) (reached_where_submitted plan ((class_at plan k).body ∷ []) (successors (submit_graph plan) k) (are_of_class plan k) submitted))
