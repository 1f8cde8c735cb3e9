use Rattle.std.proofs.Common.{refl}
use Rattle.std.proofs.lemmas.Option.{slice_get_read}
use Rattle.locked_runner.proofs.Received.{owned_where, other_event}
use Rattle.locked_runner.proofs.receipts.receipt_fits.Goals as goal

pub returns-then-is_same_event-clause-fits : goal.returns-then-is_same_event-clause-fits
returns-then-is_same_event-clause-fits c =
    let event = c.in-Some.ensures.lookup in
    let pool = c.in-Some-get.ensures.lookup in
    owned_where c.args._plan.now c.args.history.now c.args.pools.now c.args.owner c.args.receipt c.in-Some.event.now c.in-Some-get.pool.now c.owner_by.result c.is_same_event.result c.is_owned_by.result c.requires.legal c.requires.pools
    (slice_get_read c.args.history.now _ c.args.receipt.number _ refl event.3.0 event.1) (slice_get_read c.args.pools.now _ c.args.receipt.number _ refl pool.3.0 pool.1)
    c.owner_by.ensures c.is_same_event.ensures c.if-is_same_event.true c.is_owned_by.ensures

pub returns-else-is_same_event-clause-fits : goal.returns-else-is_same_event-clause-fits
returns-else-is_same_event-clause-fits c =
    let event = c.in-Some.ensures.lookup in
    other_event c.args._plan.now c.args.history.now c.args.owner c.args.receipt c.in-Some.event.now c.is_same_event.result
    (slice_get_read c.args.history.now _ c.args.receipt.number _ refl event.3.0 event.1) c.is_same_event.ensures c.if-is_same_event.false
