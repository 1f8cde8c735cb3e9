use Rattle.conformance.specs.Lines.{lines_of}
use Rattle.conformance.proofs.Steps.{named_none, named_submit, named_get}
use Rattle.conformance.proofs.describe_mismatch.named_step.Goals as goal

pub returns-in-None : goal.returns-in-None
returns-in-None c = named_none (lines_of c.args.first.now) c.args.step c.in-None.is

pub returns-in_ok-label-in-Some-Submits : goal.returns-in_ok-label-in-Some-Submits
returns-in_ok-label-in-Some-Submits c =
    named_submit (lines_of c.args.first.now) c.args.step c.in-Some-Submits.field-0 c.in-Some-Submits.job c.in_ok-label-in-Some-Submits.label c.in-Some-Submits.is (rw c.in-Some-Submits.is at c.in-Some-Submits.field-0-is) c.in_ok-label-in-Some-Submits.ensures

pub returns-in_ok-label-in-Some-Gets : goal.returns-in_ok-label-in-Some-Gets
returns-in_ok-label-in-Some-Gets c =
    named_get (lines_of c.args.first.now) c.args.step c.in-Some-Gets.field-0 c.in-Some-Gets.job c.in_ok-label-in-Some-Gets.label c.in-Some-Gets.is (rw c.in-Some-Gets.is at c.in-Some-Gets.field-0-is) c.in_ok-label-in-Some-Gets.ensures
