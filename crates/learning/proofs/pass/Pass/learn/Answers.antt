use Rattle.learning.proofs.LabelEntries.{still_stops}
use Rattle.learning.proofs.pass.Pass.learn.Goals as goal

pub returns-in_err-assignment-clause-err : goal.returns-in_err-assignment-clause-err
returns-in_err-assignment-clause-err c = λ lines draft. still_stops lines _ _ c.from_residual-in_err-assignment.ensures.1 (c.in_err-assignment.ensures.err lines draft)
