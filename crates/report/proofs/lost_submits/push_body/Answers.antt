use Rattle.std.proofs.Common.{◌≡◌, ◌<◌, length, get_or}
use Rattle.report.specs.LostSubmits.{lost_class}
use Rattle.report.proofs.Rows.{part_more}
use Rattle.report.proofs.lost_submits.push_body.Goals as goal

pub loop-number-preserved : goal.loop-number-preserved
loop-number-preserved c =
    let plan = c.args.plan.now in
    let early : c.loop-number.number < length plan.classes = rw (← c.classes-class-items.ensures.value) c.loop-number-test.true in
    let x = c.class-item.result in
    let there : x ≡ get_or plan.classes c.loop-number.number x = rw (← c.classes-class-items.ensures.value) c.class-item.is in
    rw c.in_ok-push_lost.ensures (part_more (lost_class c.args.pool c.args.kind.now c.args.name.now c.args.body.now) plan.classes c.loop-number.number x x _ _ early there c.loop-number.invariant)
