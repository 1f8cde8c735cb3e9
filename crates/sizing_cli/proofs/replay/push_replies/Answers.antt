use Rattle.sizing_cli.proofs.Answering.{replayed_at_start, replayed_one_more, replayed_to_end}
use Rattle.sizing_cli.proofs.replay.push_replies.Goals as goal

pub loop-line-init : goal.loop-line-init
loop-line-init c =
    rw (c.requires.empty, c.requires.none, c.new-number.ensures) (replayed_at_start c.args.plan.now c.args.lines c.args.world.now.view c.requires.started)

pub loop-line-preserved-then-not-is_over : goal.loop-line-preserved-then-not-is_over
loop-line-preserved-then-not-is_over c =
    let next = rw c.in-Ok.is at c.in-Some.ensures in
    let pushed = rw c.in_ok-count.ensures.counted at c.in_ok-push_reply.ensures in
    rw (c.in_ok-count.ensures.counted, c.in_ok-count_rejection.ensures, c.is_last-is_over.ensures)
    (replayed_one_more c.args.plan.now c.args.lines c.loop-line.lines c.next.new.self c.loop-line.world.view c.reply_to.new.world.view c.loop-line.rejected c.loop-line.answer c.push_reply.new.self c.loop-line.number c.loop-line.is_over
    c.in_ok-reply.reply _ next c.if-not-is_over.true c.loop-line.invariant c.in_ok-reply.ensures pushed)

pub returns : goal.returns
returns c = λ whole ended.
    replayed_to_end c.args.plan.now c.args.lines c.loop-line.lines c.loop-line.world.view c.loop-line.rejected c.loop-line.answer whole c.loop-line.number c.loop-line.is_over c.in_default.ensures.0 c.loop-line.invariant ended
