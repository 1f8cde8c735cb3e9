use Rattle.std.proofs.Common.{◌<◌, length, arith, sym, ap, ◌∙◌}
use Rattle.interleaving.specs.Waiting.{is_busy_job}
use Rattle.report.proofs.JobsFound.{one_pushed, none_pushed}
use Rattle.report.proofs.json_ending.running_in.Goals as goal
use Rattle.report.proofs.json_ending.running_in.Goals.{then-runs_in+in_ok-push, else-runs_in}

pub loop-job-preserved : goal.loop-job-preserved
loop-job-preserved c =
    let jobs = c.args.world.now.view.jobs in
    let test = is_busy_job c.args.plan.now c.args.pool in
    let inside : c.loop-job.job < length jobs = omega (arith, c.made-job-end.ensures, c.loop-job-test.true) in
    let is_test = c.runs_in.ensures ∙ ap test c.job.ensures in
    elim c.if-runs_in.branch [
      | then-runs_in+in_ok-push w ↦
          one_pushed test jobs c.loop-job.job c.loop-job.jobs.items c.if-runs_in.jobs.items inside (sym is_test ∙ w.if-runs_in.true) c.loop-job.invariant (ap (λ v. v.items) w.jobs-is ∙ w.in_ok-push.ensures.items)
      | else-runs_in w ↦ none_pushed test jobs c.loop-job.job c.if-runs_in.jobs.items inside (sym is_test ∙ w.if-runs_in.false) (ap (λ v. v.items) w.jobs-is ∙ c.loop-job.invariant)
    ]
