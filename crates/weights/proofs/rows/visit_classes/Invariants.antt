-- The loop of `visit_classes`: the rows of the classes before the current one were visited.
use Rattle.weights.specs.Rows.{class_rows}
use Rattle.weights.proofs.Walks.{HasVisited}
use Rattle.weights.proofs.rows.visit_classes.Given as goal

abbrev pub invariant-loop-number : goal.invariant-loop-number
invariant-loop-number g l = HasVisited g.V.RowVisitor.HasSeen l.initial.visitor l.visitor (class_rows l.get_return l.plan l.vector) l.plan.classes l.number
