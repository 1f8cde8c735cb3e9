use Rattle.std.proofs.Common.{List, length, ap}
use Rattle.soundness.specs.declared.note.Note.{Note}
use Rattle.refusal_notes.proofs.CollectedNotes.{part_fits}
use Rattle.refusal_notes.proofs.Explaining.{lines_begin, lines_continue}
use Rattle.refusal_notes.proofs.explained.push_all_lines.Goals as goal

pub loop-number-init : goal.loop-number-init
loop-number-init c =
    let ranks = rw c.new-notes.ensures.items at c.in_ok-push_rank_notes.ensures in
    let collected = rw c.as_slice.ensures.value at c.in_ok-push_lines.ensures in
    let many = ap (λ (ns : List Note). length ns) c.as_slice-count.ensures.value in
    rw (← c.cert.view_is) (lines_begin c.args.plan.now _ _ _ _ _ ranks collected many)

pub push_pool_notes-requires-clause-fits : goal.push_pool_notes-requires-clause-fits
push_pool_notes-requires-clause-fits c =
    let items = c.deref-pool-items.ensures.value in
    let fits = rw (← c.cert.view_is) at c.requires in
    (part_fits c.args.plan.now _ c.loop-number.number c.pool-item.result fits (rw items at c.loop-number-test.true) (rw items at c.pool-item.is)).0

pub loop-number-preserved : goal.loop-number-preserved
loop-number-preserved c =
    let items = c.deref-pool-items.ensures.value in
    let fits = rw (← c.cert.view_is) at c.requires in
    let prior = rw (← c.cert.view_is) at c.loop-number.invariant in
    let more = rw c.clear.ensures.items at c.in_ok-push_pool_notes.ensures in
    let collected = rw c.as_slice-in-loop-number.ensures.value at c.in_ok-push_lines-2.ensures in
    let many = rw c.as_slice-in-loop-number-2.ensures.value at c.in_ok-count.ensures in
    rw (← c.cert.view_is)
    (lines_continue c.args.plan.now _ _ _ _ _ _ c.loop-number.number c.pool-item.result _ fits (rw items at c.loop-number-test.true) (rw items at c.pool-item.is) more collected many prior)
