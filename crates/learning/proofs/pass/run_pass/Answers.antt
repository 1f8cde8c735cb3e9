use Rattle.learning.proofs.LabelEntries.{still_stops}
use Rattle.learning.proofs.pass.run_pass.Goals as goal

pub returns-in_err-process_line-clause-err : goal.returns-in_err-process_line-clause-err
returns-in_err-process_line-clause-err c = λ lines draft. still_stops lines _ _ c.from_residual.ensures.1 (c.in_err-process_line.ensures.err lines (c.loop-line.invariant lines draft))

pub loop-line-preserved-in-Continue-1 : goal.loop-line-preserved-in-Continue-1
loop-line-preserved-in-Continue-1 c = λ lines draft. c.in_ok-process_line.ensures.ok lines (c.loop-line.invariant lines draft)

pub returns-in_err-process_unclassified-clause-err : goal.returns-in_err-process_unclassified-clause-err
returns-in_err-process_unclassified-clause-err c = λ lines draft. still_stops lines _ _ c.from_residual-in_err-process_unclassified.ensures.1 (c.in_err-process_unclassified.ensures.err lines (c.loop-line.invariant lines draft))

pub returns-clause-ok : goal.returns-clause-ok
returns-clause-ok c = λ lines draft. c.in_ok-process_unclassified.ensures.ok lines (c.loop-line.invariant lines draft)
