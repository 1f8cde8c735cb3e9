use Rattle.std.proofs.Common.{◌≡◌, ◌<◌, length, get_or, slice_get, Some, subst}
use Rattle.support.proofs.Loops.{at_index}
use Rattle.weights.specs.Rows.{client_rows}
use Rattle.weights.proofs.Walks.{walk_continues}
use Rattle.weights.proofs.rows.visit_clients.Goals as goal

pub visit_client_rows-requires-clause-client : goal.visit_client_rows-requires-clause-client
visit_client_rows-requires-clause-client g c = rw (← c.clients-client-items.ensures.value) (at_index _ _ _ c.loop-number-test.true c.client-item.is)

pub loop-number-preserved : goal.loop-number-preserved
loop-number-preserved g c =
    let here : slice_get c.args.plan.now.clients c.loop-number.number ≡ Some c.client-item.result = rw (← c.clients-client-items.ensures.value) (at_index _ _ _ c.loop-number-test.true c.client-item.is) in
    walk_continues g.V.RowVisitor.HasSeen _ _ _ (client_rows c.args.get_return c.args.plan.now c.args.vector.now) c.args.plan.now.clients c.loop-number.number c.client-item.result here c.visit_client_rows.ensures c.loop-number.invariant
