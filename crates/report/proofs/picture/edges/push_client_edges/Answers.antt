use Rattle.std.proofs.Common.{◌≡◌, ◌<◌, length, get_or}
use Rattle.report.specs.Picture.{edges_from_client}
use Rattle.report.proofs.Rows.{part_more}
use Rattle.report.proofs.picture.edges.push_client_edges.Goals as goal

pub loop-number-preserved : goal.loop-number-preserved
loop-number-preserved c =
    let plan = c.args.plan.now in
    let early : c.loop-number.number < length plan.clients = rw (← c.clients-client-items.ensures.value) c.loop-number-test.true in
    let x = c.client-item.result in
    let there : x ≡ get_or plan.clients c.loop-number.number x = rw (← c.clients-client-items.ensures.value) c.client-item.is in
    rw c.in_ok-push_edges_from_client.ensures (part_more (edges_from_client plan) plan.clients c.loop-number.number x x _ _ early there c.loop-number.invariant)
