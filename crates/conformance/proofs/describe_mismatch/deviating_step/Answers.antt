use Rattle.conformance.specs.JobSet.{has_job}
use Rattle.conformance.specs.Lines.{lines_of}
use Rattle.conformance.proofs.Steps.{mismatch_end, mismatch_submit, mismatch_get}
use Rattle.conformance.proofs.describe_mismatch.deviating_step.Goals as goal

pub returns-in_ok-end-in-None : goal.returns-in_ok-end-in-None
returns-in_ok-end-in-None c =
    mismatch_end c.args.plan.now (lines_of c.args.first.now) (has_job c.args.classless.now) c.args.actor c.args.path.now c.args.explained c.args.step c.missing_job.result c.in_ok-end-in-None.end c.in-None.is c.missing_job.ensures c.in_ok-end-in-None.ensures

pub returns-in_ok-label-in-Some-Submits : goal.returns-in_ok-label-in-Some-Submits
returns-in_ok-label-in-Some-Submits c =
    mismatch_submit c.args.plan.now (lines_of c.args.first.now) (has_job c.args.classless.now) c.args.actor c.args.path.now c.args.explained c.args.step c.in-Some-Submits.field-0 c.in-Some-Submits.job c.in_ok-label-in-Some-Submits.label c.deviating_submit.result
    c.in-Some-Submits.is (rw c.in-Some-Submits.is at c.in-Some-Submits.field-0-is) c.in_ok-label-in-Some-Submits.ensures c.deviating_submit.ensures

pub returns-in_ok-label-in-Some-Gets : goal.returns-in_ok-label-in-Some-Gets
returns-in_ok-label-in-Some-Gets c =
    mismatch_get c.args.plan.now (lines_of c.args.first.now) (has_job c.args.classless.now) c.args.actor c.args.path.now c.args.explained c.args.step c.in-Some-Gets.field-0 c.in-Some-Gets.job c.in_ok-label-in-Some-Gets.label c.in-Some-Gets.is (rw c.in-Some-Gets.is at c.in-Some-Gets.field-0-is) c.in_ok-label-in-Some-Gets.ensures
