use Rattle.std.proofs.Common.{◌<◌, length, arith, sym, ap, ◌∙◌}
use Rattle.pool_machine.specs.declared.parent.Parent.TheVariants.{Job}
use Rattle.interleaving.specs.ViewStep.{is_live_child}
use Rattle.report.proofs.JobsFound.{last_here, last_before}
use Rattle.report.proofs.json_ending.child_of.Goals as goal
use Rattle.report.proofs.json_ending.child_of.Goals.{then-is_child_of, else-is_child_of}

pub loop-job-preserved : goal.loop-job-preserved
loop-job-preserved c =
    let jobs = c.args.world.now.view.jobs in
    let test = is_live_child (Job c.args.number) c.args.submit in
    let inside : c.loop-job.job < length jobs = omega (arith, c.made-job-end.ensures, c.loop-job-test.true) in
    let is_test = c.is_child_of.ensures ∙ ap test c.job.ensures in
    elim c.if-is_child_of.branch [
      | then-is_child_of w ↦ w.child-is ∙ last_here test jobs c.loop-job.job inside (sym is_test ∙ w.if-is_child_of.true)
      | else-is_child_of w ↦ last_before test jobs c.loop-job.job c.if-is_child_of.child inside (sym is_test ∙ w.if-is_child_of.false) (w.child-is ∙ c.loop-job.invariant)
    ]
