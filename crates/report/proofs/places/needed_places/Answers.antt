use Rattle.std.proofs.Common.{◌≡◌, ◌<◌, length, get_or, ap, ◌∙◌}
use Rattle.report.specs.Places.{places_in}
use Rattle.report.proofs.ShareSums.{given_more}
use Rattle.report.proofs.places.needed_places.Goals as goal

pub loop-number-preserved : goal.loop-number-preserved
loop-number-preserved c =
    let pools = c.args.cert.now.pools in
    let number = c.loop-number.number in
    let x = c.part-item.result in
    let same : c.deref-part-items.result.now ≡ pools = c.deref-part-items.ensures.value ∙ ap (λ (cert : _). cert.pools) c.cert.view_is in
    let early : number < length pools = rw (← same) c.loop-number-test.true in
    let there : x ≡ get_or pools number x = rw (← same) c.part-item.is in
    rw (c.in_ok-push.ensures.items, c.places_in.ensures) (given_more (places_in c.args.plan.now) pools number x _ _ early there c.loop-number.invariant)
