-- The loop of `visit_queued_rows`: the rows of the classes before the current one were visited.
use Rattle.std.proofs.Common.{[], ◌∷◌}
use Rattle.std.specs.Prelude.{◌==◌, if◌then◌else◌}
use Rattle.weights.specs.declared.row.Rule.TheVariants.{S1}
use Rattle.weights.specs.declared.row.Place.TheVariants.{Class}
use Rattle.weights.specs.Row.{row}
use Rattle.weights.specs.Vector.{queued_weight}
use Rattle.weights.proofs.Walks.{HasVisited}
use Rattle.weights.proofs.standing.visit_queued_rows.Given as goal

abbrev pub invariant-loop-number : goal.invariant-loop-number
invariant-loop-number g l =
    HasVisited g.V.RowVisitor.HasSeen l.initial.visitor l.visitor (λ number class. if class.pool == l.pool then row S1 (Class number) 1 (queued_weight l.vector number) ∷ [] else []) l.plan.classes l.number
