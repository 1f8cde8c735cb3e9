use Rattle.learning.proofs.LabelEntries.{still_stops}
use Rattle.learning.proofs.pass.Pass.process_line.Goals as goal

pub returns-in_err-process_classified-clause-err : goal.returns-in_err-process_classified-clause-err
returns-in_err-process_classified-clause-err c = λ lines draft. still_stops lines _ _ c.from_residual-in_err-process_classified.ensures.1 (c.in_err-process_classified.ensures.err lines draft)

pub returns-clause-ok : goal.returns-clause-ok
returns-clause-ok c = λ lines draft. c.in_ok-process_classified.ensures.ok lines draft
