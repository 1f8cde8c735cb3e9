use Rattle.std.proofs.Common.{◌≡◌, ◌<◌, length, get_or, rules}
use Rattle.job_bodies.specs.Plan.{Client}
use Rattle.diagnostics.proofs.EntryPlaces.{counts_more}
use Rattle.diagnostics.proofs.entry_places.client_places.Goals as goal

pub loop-index-preserved : goal.loop-index-preserved
loop-index-preserved c =
    let plan = c.args.plan.now in
    let x = c.client-item.result in
    let inside : c.loop-index.index < length plan.clients = rw (← c.clients-client-items.ensures.value) c.loop-index-test.true in
    let there : x ≡ get_or plan.clients c.loop-index.index x = rw (← c.clients-client-items.ensures.value) c.client-item.is in
    rw c.in_ok-push.ensures.items (counts_more (λ (client : Client). length client.body) plan.clients c.loop-index.index x c.loop-index.found.items c.in_ok-body_places.field-0 inside there c.loop-index.invariant (search rules))
