use Rattle.std.proofs.Common.{◌≡◌, ◌<◌, ℕ, length, get_or}
use Rattle.job_bodies.specs.Plan.{Client}
use Rattle.diagnostics.specs.Lints.{growing_of_client}
use Rattle.diagnostics.proofs.InOrder.{one_more_read}
use Rattle.diagnostics.proofs.growing_queues.push_clients.Goals as goal

pub loop-number-preserved : goal.loop-number-preserved
loop-number-preserved c =
    let plan = c.args.plan.now in
    let x = c.client-item.result in
    let early : c.loop-number.number < length plan.clients = rw (← c.clients-client-items.ensures.value) c.loop-number-test.true in
    let there : x ≡ get_or plan.clients c.loop-number.number x = rw (← c.clients-client-items.ensures.value) c.client-item.is in
    rw c.in_ok-push_client.ensures (one_more_read (λ (entry : ℕ × Client). growing_of_client plan entry.0 entry.1) plan.clients c.loop-number.number x _ _ early there c.loop-number.invariant)
