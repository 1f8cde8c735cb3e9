-- If no class submits itself, the classes that a class submits have lower levels in the steady certificate.
use Rattle.std.proofs.Common.{◌≡◌, ℕ, ◌+◌, ◌<◌, ◌≤◌, [], ◌∷◌, length, get_or, sym, subst, arith}
use Rattle.std.proofs.lemmas.List.{length-map}
use Rattle.support.specs.In.{In}
use Rattle.job_bodies.specs.declared.action.Action.TheVariants.{Submit}
use Rattle.job_bodies.specs.Plan.{Class, Plan, class_at}
use Rattle.job_bodies.proofs.Bodies.{HasValidBodies}
use Rattle.size_search.specs.Graph.{successors, IsOnCircle}
use Rattle.size_search.proofs.GraphDepths as of_graph
use Rattle.size_search.specs.Submitted.{NoCircle}
use Rattle.size_search.specs.JobGraphs.{submits_of, submit_graph}
use Rattle.size_search.specs.Steady.{steady_levels}
use Rattle.size_search.proofs.JobGraphs.{submit_successors, submit_closed, In-submits, submitted_where_reached, are_of_class}

no_submit_circle : (plan : Plan) → NoCircle plan → (k : ℕ) → ¬ IsOnCircle (submit_graph plan) k
no_submit_circle plan none k circle = none k (submitted_where_reached plan ((class_at plan k).body ∷ []) (successors (submit_graph plan) k) (are_of_class plan k) circle)

pub as_many_levels : (plan : Plan) → length (steady_levels plan) ≡ length plan.classes
as_many_levels plan = omega (arith, of_graph.length-levels_of (submit_graph plan), length-map plan.classes (λ (class : Class). submits_of class.body))

-- every level is below the number of classes
pub shallow : (plan : Plan) → HasValidBodies plan → NoCircle plan → (k : ℕ) → k < length plan.classes → get_or (steady_levels plan) k 0 < length plan.classes
shallow plan ordered none k inside =
    let as_many = length-map plan.classes (λ (class : Class). submits_of class.body) in
    omega (arith, of_graph.shallow (submit_graph plan) (submit_closed plan ordered) (no_submit_circle plan none) k (omega (arith, inside, as_many)), as_many)

-- the classes that a class submits have lower levels
pub levels_sink : (plan : Plan) → HasValidBodies plan → NoCircle plan → (k j : ℕ) → In (Submit j) (class_at plan k).body → get_or (steady_levels plan) j 0 + 1 ≤ get_or (steady_levels plan) k 0
levels_sink plan ordered none k j at =
    of_graph.levels_sink (submit_graph plan) (submit_closed plan ordered) (no_submit_circle plan none) k j (subst (In j) (sym (submit_successors plan k)) (In-submits at))
