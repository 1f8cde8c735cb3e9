use Rattle.std.proofs.Common.{◌≡◌, ◌<◌, length, get_or, sym, ◌∙◌}
use Rattle.counterexample.proofs.LightJobs.{light_more, light_fails}
use Rattle.counterexample.proofs.no_thread_starts.rejected_are_light.Goals as goal

pub loop-number-preserved : goal.loop-number-preserved
loop-number-preserved c =
    let inside : c.loop-number.number < length c.args.plan.now.classes = rw (← c.classes-class-items.ensures.value) c.loop-number-test.true in
    let here : c.class-item.result ≡ get_or c.args.plan.now.classes c.loop-number.number c.class-item.result = rw (← c.classes-class-items.ensures.value) c.class-item.is in
    light_more c.args.plan.now c.args.vector.now c.loop-number.number c.class-item.result _ inside here (sym c.is_light.ensures ∙ c.if-not-is_light.false) c.loop-number.invariant

pub returns-then-not-is_light : goal.returns-then-not-is_light
returns-then-not-is_light c =
    let inside : c.loop-number.number < length c.args.plan.now.classes = rw (← c.classes-class-items.ensures.value) c.loop-number-test.true in
    let here : c.class-item.result ≡ get_or c.args.plan.now.classes c.loop-number.number c.class-item.result = rw (← c.classes-class-items.ensures.value) c.class-item.is in
    light_fails c.args.plan.now c.args.vector.now c.loop-number.number c.class-item.result _ inside here (sym c.is_light.ensures ∙ c.if-not-is_light.true) c.loop-number.invariant
