use Rattle.std.proofs.Common.{rules, ◌≡◌, ℕ, length, map, replicate, ap, ◌∙◌, Vec, Global}
use Rattle.job_bodies.proofs.Bodies.{ordered}
use Rattle.weights.specs.Vector.{Vector}
use Rattle.size_search.specs.ComputedRows.{IsComputedUpTo}
use Rattle.size_search.specs.Steady.{client_row}
use Rattle.size_search.proofs.RowSteps.{vector_of, vector_from}
use Rattle.size_search.proofs.certificate.steady_vector.Goals as goal

pub returns-clause-vector : goal.returns-clause-vector
returns-clause-vector c =
    let plan = c.args.plan.now in
    let seen = λ (row : Vec ℕ Global). row.items in
    let v = c.in-Some.vector in
    let computed : IsComputedUpTo plan v (length plan.classes) 0 = search rules in
    let workers : c.in_ok-vector-inside-2.field-0.items ≡ replicate (length plan.pools) 0 = search rules in
    let clients : map seen c.in_ok-vector-inside.field-0.items ≡ map (client_row plan v) plan.clients = search rules in
    ap (λ (any : Vector). vector_of c.in_ok-vector-inside-2.field-0.items any.classes (map seen c.in_ok-vector-inside.field-0.items)) c.vector.view_is
    ∙ vector_from plan v c.in_ok-vector-inside-2.field-0.items (map seen c.in_ok-vector-inside.field-0.items) (ordered plan c.pools.ensures.well_formed) c.requires.free computed workers clients
