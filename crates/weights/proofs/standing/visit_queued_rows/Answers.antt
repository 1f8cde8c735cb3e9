use Rattle.std.proofs.Common.{◌≡◌, [], ◌∷◌, slice_get, Some, ◌∙◌}
use Rattle.std.specs.Prelude.{◌==◌, if◌then◌else◌}
use Rattle.std.specs.List.{enumerate_from}
use Rattle.support.proofs.Loops.{at_index}
use Rattle.weights.specs.declared.row.Rule.TheVariants.{S1}
use Rattle.weights.specs.declared.row.Place.TheVariants.{Class}
use Rattle.weights.specs.Row.{row}
use Rattle.weights.specs.Vector.{queued_weight}
use Rattle.weights.specs.Rows.{classes_of}
use Rattle.weights.proofs.Walks.{walk_continues, walk_ends, visits_same, of_passing, one_each}
use Rattle.weights.proofs.standing.visit_queued_rows.Goals as goal

pub visit_queued_row-requires-clause-class : goal.visit_queued_row-requires-clause-class
visit_queued_row-requires-clause-class g c = rw (← c.classes-class-items.ensures.value) (at_index _ _ _ c.loop-number-test.true c.class-item.is)

pub loop-number-preserved : goal.loop-number-preserved
loop-number-preserved g c =
    let rows_at = λ (number : _) (class : _). if class.pool == c.args.pool then row S1 (Class number) 1 (queued_weight c.args.vector.now number) ∷ [] else [] in
    let here : slice_get c.args.plan.now.classes c.loop-number.number ≡ Some c.class-item.result = rw (← c.classes-class-items.ensures.value) (at_index _ _ _ c.loop-number-test.true c.class-item.is) in
    walk_continues g.V.RowVisitor.HasSeen _ _ _ rows_at c.args.plan.now.classes c.loop-number.number c.class-item.result here c.visit_queued_row.ensures c.loop-number.invariant

pub returns : goal.returns
returns g c =
    let has_seen = g.V.RowVisitor.HasSeen in
    let rows_at = λ (number : _) (class : _). if class.pool == c.args.pool then row S1 (Class number) 1 (queued_weight c.args.vector.now number) ∷ [] else [] in
    let f = λ (entry : _ × _). row S1 (Class entry.0) 1 (queued_weight c.args.vector.now entry.0) in
    let all = walk_ends has_seen _ _ rows_at c.args.plan.now.classes c.loop-number.number (rw (← c.classes-class-items.ensures.value) c.loop-number-test.false) c.loop-number.invariant in
    visits_same has_seen _ _ _ _ (of_passing (λ entry. entry.1.pool == c.args.pool) (λ entry. f entry ∷ []) (enumerate_from 0 c.args.plan.now.classes) ∙ one_each f (classes_of c.args.plan.now c.args.pool)) all
