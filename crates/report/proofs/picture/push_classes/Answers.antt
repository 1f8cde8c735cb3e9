use Rattle.report.specs.Picture.{class_node}
use Rattle.report.proofs.Rows.{part_more}
use Rattle.report.proofs.picture.push_classes.Goals as goal

pub loop-number-preserved : goal.loop-number-preserved
loop-number-preserved c =
    let classes = c.args.classes.now in
    let x = c.index-classes-number.result in
    rw c.in_ok-push_class.ensures (part_more (class_node c.args.pool) classes c.loop-number.number x x _ _ c.loop-number-test.true c.index-classes-number.is c.loop-number.invariant)
