-- The loop of `visit_clients`: the rows of the client kinds before the current one were visited.
use Rattle.weights.specs.Rows.{client_rows}
use Rattle.weights.proofs.Walks.{HasVisited}
use Rattle.weights.proofs.rows.visit_clients.Given as goal

abbrev pub invariant-loop-number : goal.invariant-loop-number
invariant-loop-number g l = HasVisited g.V.RowVisitor.HasSeen l.initial.visitor l.visitor (client_rows l.get_return l.plan l.vector) l.plan.clients l.number
