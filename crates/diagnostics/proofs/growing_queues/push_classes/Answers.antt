use Rattle.std.proofs.Common.{◌≡◌, ◌<◌, ℕ, length, get_or}
use Rattle.job_bodies.specs.Plan.{Class}
use Rattle.diagnostics.specs.Lints.{growing_of_class}
use Rattle.diagnostics.proofs.InOrder.{one_more_read}
use Rattle.diagnostics.proofs.growing_queues.push_classes.Goals as goal

pub loop-number-preserved : goal.loop-number-preserved
loop-number-preserved c =
    let plan = c.args.plan.now in
    let x = c.class-item.result in
    let early : c.loop-number.number < length plan.classes = rw (← c.classes-class-items.ensures.value) c.loop-number-test.true in
    let there : x ≡ get_or plan.classes c.loop-number.number x = rw (← c.classes-class-items.ensures.value) c.class-item.is in
    rw c.in_ok-push_class.ensures (one_more_read (λ (entry : ℕ × Class). growing_of_class plan c.args.repeated.now entry.0 entry.1) plan.classes c.loop-number.number x _ _ early there c.loop-number.invariant)
