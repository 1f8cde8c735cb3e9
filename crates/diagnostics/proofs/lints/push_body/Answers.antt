use Rattle.std.proofs.Common.{ℕ}
use Rattle.job_bodies.specs.declared.action.Action.{Action}
use Rattle.job_bodies.specs.declared.action.Action.TheVariants.{Work}
use Rattle.diagnostics.specs.Lints.{lints_of_action}
use Rattle.diagnostics.proofs.InOrder.{one_more}
use Rattle.diagnostics.proofs.lints.push_body.Goals as goal

pub loop-place-preserved : goal.loop-place-preserved
loop-place-preserved c =
    let of_action = λ (entry : ℕ × Action). lints_of_action c.args.plan.now c.args.needed.now c.args.part c.args.number c.args.body.now entry.0 entry.1 in
    rw c.in_ok-push_action.ensures (one_more of_action c.args.body.now c.loop-place.place (Work 0) _ _ c.loop-place-test.true c.loop-place.invariant)
