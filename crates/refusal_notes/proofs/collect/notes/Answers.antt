use Rattle.refusal_notes.proofs.CollectedNotes.{part_fits, notes_begin, notes_continue}
use Rattle.refusal_notes.proofs.collect.notes.Goals as goal

pub loop-number-init : goal.loop-number-init
loop-number-init c =
    let ranks = rw c.new-notes.ensures.items at c.in_ok-push_rank_notes.ensures in
    rw (← c.cert.view_is) (notes_begin c.args.plan.now _ _ ranks)

pub push_pool_notes-requires-clause-fits : goal.push_pool_notes-requires-clause-fits
push_pool_notes-requires-clause-fits c =
    let items = c.deref-pool-items.ensures.value in
    let fits = rw (← c.cert.view_is) at c.requires.fits in
    (part_fits c.args.plan.now _ c.loop-number.number c.pool-item.result fits (rw items at c.loop-number-test.true) (rw items at c.pool-item.is)).0

pub loop-number-preserved : goal.loop-number-preserved
loop-number-preserved c =
    let items = c.deref-pool-items.ensures.value in
    let fits = rw (← c.cert.view_is) at c.requires.fits in
    let prior = rw (← c.cert.view_is) at c.loop-number.invariant in
    rw (← c.cert.view_is)
    (notes_continue c.args.plan.now _ _ _ c.loop-number.number c.pool-item.result fits (rw items at c.loop-number-test.true) (rw items at c.pool-item.is) c.in_ok-push_pool_notes.ensures prior)
