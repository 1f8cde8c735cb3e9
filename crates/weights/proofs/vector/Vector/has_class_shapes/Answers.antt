use Rattle.std.proofs.Common.{◌≡◌, ◌<◌, ◌+◌, ◌∙◌, List, length, get_or, ap, sym}
use Rattle.std.specs.Prelude.{◌==◌}
use Rattle.std.proofs.lemmas.Bool.{eq-eqb}
use Rattle.job_bodies.specs.declared.action.Action.{Action}
use Rattle.weights.specs.Vector.{class_weights}
use Rattle.weights.proofs.Loops.{passes_more}
use Rattle.weights.proofs.vector.Vector.has_class_shapes.Goals as goal

pub loop-number-preserved : goal.loop-number-preserved
loop-number-preserved c =
    let i = c.loop-number.number in
    let x = c.class-item.result in
    let inside : i < length c.args.plan.now.classes = rw (← c.classes-class-items.ensures.value) c.loop-number-test.true in
    let here : x ≡ get_or c.args.plan.now.classes i x = rw (← c.classes-class-items.ensures.value) c.class-item.is in
    let body : c.as_slice.result.now ≡ x.body = c.as_slice.ensures.value ∙ ap (λ (k : _). k.body) c.class.view_is in
    let long : length (class_weights c.args.self.now i) ≡ length x.body + 3 =
    ap (λ (ws : List _). length ws) (sym c.class_weights.ensures) ∙ c.if-class_weights-as_slice.false ∙ ap (λ (b : List Action). length b + 3) body in
    passes_more (λ entry. length (class_weights c.args.self.now entry.0) == length entry.1.body + 3) c.args.plan.now.classes i x _ inside here (eq-eqb _ _ long) c.loop-number.invariant
