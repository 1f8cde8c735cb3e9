-- The loop of `visit_all_l2_rows`: the rows of the classes before the current one were visited.
use Rattle.std.proofs.Common.{[], map}
use Rattle.std.specs.Prelude.{◌==◌, if◌then◌else◌}
use Rattle.weights.specs.declared.row.Rule.TheVariants.{L2}
use Rattle.weights.specs.declared.row.Place.TheVariants.{Class}
use Rattle.weights.specs.Row.{row}
use Rattle.weights.specs.Vector.{class_weights}
use Rattle.weights.proofs.Walks.{HasVisited}
use Rattle.weights.proofs.lifetime.visit_all_l2_rows.Given as goal

abbrev pub invariant-loop-number : goal.invariant-loop-number
invariant-loop-number g l =
    HasVisited g.V.RowVisitor.HasSeen l.initial.visitor l.visitor (λ number class. if class.pool == l.pool then map (λ weight. row L2 (Class number) 1 weight) (class_weights l.vector number) else []) l.plan.classes l.number
