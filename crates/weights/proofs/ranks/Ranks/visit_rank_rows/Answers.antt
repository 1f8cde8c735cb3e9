use Rattle.std.proofs.Common.{◌≡◌, slice_get, Some}
use Rattle.support.proofs.Loops.{at_index}
use Rattle.weights.proofs.Walks.{walk_continues}
use Rattle.weights.specs.Ranks.{rank_rows_of_class}
use Rattle.weights.proofs.ranks.Ranks.visit_rank_rows.Goals as goal

pub visit_class_rows-requires-clause-class : goal.visit_class_rows-requires-clause-class
visit_class_rows-requires-clause-class g c = rw (← c.classes-class-items.ensures.value) (at_index _ _ _ c.loop-number-test.true c.class-item.is)

pub loop-number-preserved : goal.loop-number-preserved
loop-number-preserved g c =
    let here : slice_get c.args.plan.now.classes c.loop-number.number ≡ Some c.class-item.result = rw (← c.classes-class-items.ensures.value) (at_index _ _ _ c.loop-number-test.true c.class-item.is) in
    walk_continues g.V.RowVisitor.HasSeen _ _ _ (rank_rows_of_class c.args.self.now) c.args.plan.now.classes c.loop-number.number c.class-item.result here c.visit_class_rows.ensures c.loop-number.invariant
