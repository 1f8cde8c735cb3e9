use Rattle.report.specs.Picture.{client_node}
use Rattle.report.proofs.Rows.{part_more}
use Rattle.report.proofs.picture.push_clients.Goals as goal

pub loop-number-preserved : goal.loop-number-preserved
loop-number-preserved c =
    let clients = c.args.clients.now in
    let x = c.index-clients-number.result in
    rw c.in_ok-push_client.ensures (part_more client_node clients c.loop-number.number x x _ _ c.loop-number-test.true c.index-clients-number.is c.loop-number.invariant)
