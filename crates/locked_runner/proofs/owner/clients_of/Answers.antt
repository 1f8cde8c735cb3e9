use Rattle.locked_runner.proofs.Owners.{client_more}
use Rattle.locked_runner.proofs.owner.clients_of.Goals as goal

pub loop-number-preserved : goal.loop-number-preserved
loop-number-preserved c =
    rw (c.in_ok-push.ensures.items) (client_more c.args.kinds.now c.loop-number.number c.loop-number.owners.items _ c.loop-number-test.true c.loop-number.invariant)
