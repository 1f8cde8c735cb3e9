use Rattle.learning.proofs.LabelEntries.{still_stops}
use Rattle.learning.proofs.covering.cover_all.Goals as goal

pub returns-in_err-plan-clause-err : goal.returns-in_err-plan-clause-err
returns-in_err-plan-clause-err c = λ lines actors draft. still_stops lines _ _ c.from_residual.ensures.1 (c.in_err-plan.ensures lines actors)

pub returns-in_err-pass-clause-err : goal.returns-in_err-pass-clause-err
returns-in_err-pass-clause-err c = λ lines actors draft. still_stops lines _ _ c.from_residual-in_err-pass.ensures.1 (c.in_err-pass.ensures.err lines (c.loop.invariant lines draft))

pub returns-then-pass-clause-ok : goal.returns-then-pass-clause-ok
returns-then-pass-clause-ok c = λ lines draft. c.in_ok-pass.ensures.ok lines (c.loop.invariant lines draft)

pub loop-preserved : goal.loop-preserved
loop-preserved c = λ lines draft. c.in_ok-pass.ensures.ok lines (c.loop.invariant lines draft)
