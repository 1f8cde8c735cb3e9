use Rattle.std.proofs.Common.{ℕ}
use Rattle.job_bodies.specs.declared.action.Action.{Action}
use Rattle.job_bodies.specs.declared.action.Action.TheVariants.{Work}
use Rattle.diagnostics.specs.declared.lint.Lint.TheVariants.{QueueMayGrow}
use Rattle.diagnostics.specs.Lints.{fills_queue, only_if}
use Rattle.diagnostics.proofs.InOrder.{one_more}
use Rattle.diagnostics.proofs.growing_queues.push_body.Goals as goal

pub loop-position-preserved : goal.loop-position-preserved
loop-position-preserved c =
    let body = c.args.body.now in
    let of_action = λ (entry : ℕ × Action). only_if (fills_queue c.args.plan.now body entry.0 entry.1) (QueueMayGrow c.args.part c.args.number entry.0) in
    rw (c.in_ok-push_if.ensures, c.fills_queue.ensures) (one_more of_action body c.loop-position.position (Work 0) _ _ c.loop-position-test.true c.loop-position.invariant)
