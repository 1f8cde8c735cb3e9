use Rattle.learning.proofs.LabelEntries.{still_stops}
use Rattle.learning.proofs.pass.Pass.process_classified.Goals as goal

pub returns-in_err-class-clause-err : goal.returns-in_err-class-clause-err
returns-in_err-class-clause-err c = λ lines draft. still_stops lines _ _ c.from_residual.ensures.1 (c.in_err-class.ensures.err lines (c.loop-one.invariant lines draft))

pub loop-one-preserved : goal.loop-one-preserved
loop-one-preserved c = λ lines draft. c.in_ok-class.ensures.ok lines (c.loop-one.invariant lines draft)
