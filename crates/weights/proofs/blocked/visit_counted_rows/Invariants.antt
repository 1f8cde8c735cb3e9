-- The loop of `visit_counted_rows`: the rows of the actions before the current position were visited.
use Rattle.std.proofs.Common.{[], ◌∷◌, ◌&&◌}
use Rattle.std.specs.Prelude.{if◌then◌else◌}
use Rattle.weights.specs.declared.row.Rule.TheVariants.{B1}
use Rattle.weights.specs.declared.row.Place.TheVariants.{ClassAction}
use Rattle.weights.specs.Row.{row}
use Rattle.weights.specs.Vector.{job_weight}
use Rattle.weights.proofs.Walks.{HasVisited}
use Rattle.weights.specs.Blocked.{is_get}
use Rattle.weights.proofs.blocked.visit_counted_rows.Given as goal

abbrev pub invariant-loop-position : goal.invariant-loop-position
invariant-loop-position g l =
    HasVisited g.V.RowVisitor.HasSeen l.initial.visitor l.visitor
    (λ i action. if is_get action && g.C.Counted.is_counted l.counted l.number i then row B1 (ClassAction l.number i) 1 (job_weight l.vector l.number i) ∷ [] else [])
    l.class.body l.position
