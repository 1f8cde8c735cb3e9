use Rattle.std.proofs.Common.{get_or, refl}
use Rattle.job_bodies.specs.declared.action.Action.TheVariants.{Work}
use Rattle.report.specs.SubmitsTo.{action_line}
use Rattle.report.proofs.Rows.{part_more}
use Rattle.report.proofs.submits_to.push_body.Goals as goal

pub loop-position-preserved : goal.loop-position-preserved
loop-position-preserved c =
    let body = c.args.body.now in
    let position = c.loop-position.position in
    rw c.in_ok-push_action.ensures (part_more (action_line c.args.plan.now c.args.pool c.args.kind.now c.args.name.now body) body position (Work 0) (get_or body position (Work 0)) _ _ c.loop-position-test.true refl c.loop-position.invariant)
