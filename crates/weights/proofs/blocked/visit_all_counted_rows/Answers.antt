use Rattle.std.proofs.Common.{◌≡◌, [], slice_get, Some}
use Rattle.std.specs.Prelude.{◌==◌, if◌then◌else◌}
use Rattle.std.specs.List.{enumerate_from}
use Rattle.support.proofs.Loops.{at_index}
use Rattle.weights.proofs.Walks.{walk_continues, walk_ends, visits_same, of_passing}
use Rattle.weights.specs.Blocked.{counted_rows}
use Rattle.weights.proofs.blocked.visit_all_counted_rows.Goals as goal

pub visit_counted_rows_of-requires-clause-class : goal.visit_counted_rows_of-requires-clause-class
visit_counted_rows_of-requires-clause-class g c = rw (← c.classes-class-items.ensures.value) (at_index _ _ _ c.loop-number-test.true c.class-item.is)

pub loop-number-preserved : goal.loop-number-preserved
loop-number-preserved g c =
    let rows_at = λ (number : _) (class : _). if class.pool == c.args.pool then counted_rows (g.C.Counted.is_counted c.args.counted.now) c.args.vector.now number class else [] in
    let here : slice_get c.args.plan.now.classes c.loop-number.number ≡ Some c.class-item.result = rw (← c.classes-class-items.ensures.value) (at_index _ _ _ c.loop-number-test.true c.class-item.is) in
    walk_continues g.V.RowVisitor.HasSeen _ _ _ rows_at c.args.plan.now.classes c.loop-number.number c.class-item.result here c.visit_counted_rows_of.ensures c.loop-number.invariant

pub returns : goal.returns
returns g c =
    let has_seen = g.V.RowVisitor.HasSeen in
    let rows_at = λ (number : _) (class : _). if class.pool == c.args.pool then counted_rows (g.C.Counted.is_counted c.args.counted.now) c.args.vector.now number class else [] in
    let f = λ (entry : _ × _). counted_rows (g.C.Counted.is_counted c.args.counted.now) c.args.vector.now entry.0 entry.1 in
    let all = walk_ends has_seen _ _ rows_at c.args.plan.now.classes c.loop-number.number (rw (← c.classes-class-items.ensures.value) c.loop-number-test.false) c.loop-number.invariant in
    visits_same has_seen _ _ _ _ (of_passing (λ entry. entry.1.pool == c.args.pool) f (enumerate_from 0 c.args.plan.now.classes)) all
