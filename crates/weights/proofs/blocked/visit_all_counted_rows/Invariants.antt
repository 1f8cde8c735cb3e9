-- The loop of `visit_all_counted_rows`: the rows of the classes before the current one were visited.
use Rattle.std.proofs.Common.{[]}
use Rattle.std.specs.Prelude.{◌==◌, if◌then◌else◌}
use Rattle.weights.proofs.Walks.{HasVisited}
use Rattle.weights.specs.Blocked.{counted_rows}
use Rattle.weights.proofs.blocked.visit_all_counted_rows.Given as goal

abbrev pub invariant-loop-number : goal.invariant-loop-number
invariant-loop-number g l =
    HasVisited g.V.RowVisitor.HasSeen l.initial.visitor l.visitor
    (λ number class. if class.pool == l.pool then counted_rows (g.C.Counted.is_counted l.counted) l.vector number class else [])
    l.plan.classes l.number
