use Rattle.std.proofs.Common.{◌≡◌, ◌<◌, length, get_or}
use Rattle.std.specs.Prelude.{option_map}
use Rattle.report.specs.Picture.{edges_from_class}
use Rattle.report.proofs.Rows.{part_more}
use Rattle.report.proofs.picture.edges.push_class_edges.Goals as goal

pub loop-number-preserved : goal.loop-number-preserved
loop-number-preserved c =
    let plan = c.args.plan.now in
    let edges = edges_from_class plan (option_map (λ ranks. ranks.now) c.args.ranks) in
    let early : c.loop-number.number < length plan.classes = rw (← c.classes-class-items.ensures.value) c.loop-number-test.true in
    let x = c.class-item.result in
    let there : x ≡ get_or plan.classes c.loop-number.number x = rw (← c.classes-class-items.ensures.value) c.class-item.is in
    rw c.in_ok-push_edges_from_class.ensures (part_more edges plan.classes c.loop-number.number x x _ _ early there c.loop-number.invariant)
