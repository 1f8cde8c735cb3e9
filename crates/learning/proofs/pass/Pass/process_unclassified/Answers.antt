use Rattle.std.proofs.Common.{sym, subst}
use Rattle.learning.specs.LearningState.{IsDraftOf}
use Rattle.learning.proofs.LabelEntries.{still_stops}
use Rattle.learning.proofs.pass.Pass.process_unclassified.Goals.{then-contains+in_ok-class, else-contains, then-not-contains+in_ok-learn, else-not-contains}
use Rattle.learning.proofs.pass.Pass.process_unclassified.Goals as goal

pub returns-in_err-class-clause-err : goal.returns-in_err-class-clause-err
returns-in_err-class-clause-err c = λ lines draft. still_stops lines _ _ c.from_residual.ensures.1 (c.in_err-class.ensures.err lines (c.loop-one.invariant lines draft))

pub loop-one-preserved : goal.loop-one-preserved
loop-one-preserved c = λ lines draft. elim c.if-contains.branch [
  | then-contains+in_ok-class w ↦ subst (IsDraftOf lines) (sym w.draft-is) (w.in_ok-class.ensures.ok lines (c.loop-one.invariant lines draft))
  | else-contains w ↦ subst (IsDraftOf lines) (sym w.draft-is) (c.loop-one.invariant lines draft)
]

pub returns-in_err-learn-clause-err : goal.returns-in_err-learn-clause-err
returns-in_err-learn-clause-err c = λ lines draft.
    still_stops lines _ _ c.from_residual-in_err-learn.ensures.1 (c.in_err-learn.ensures.err lines (c.loop-one-2.invariant lines (c.loop-one.invariant lines draft)))

pub loop-one-2-preserved : goal.loop-one-2-preserved
loop-one-2-preserved c = λ lines draft. elim c.if-not-contains.branch [
  | then-not-contains+in_ok-learn w ↦ subst (IsDraftOf lines) (sym w.draft-is) (w.in_ok-learn.ensures.ok lines (c.loop-one-2.invariant lines draft))
  | else-not-contains w ↦ subst (IsDraftOf lines) (sym w.draft-is) (c.loop-one-2.invariant lines draft)
]

pub returns-clause-ok : goal.returns-clause-ok
returns-clause-ok c = λ lines draft. c.loop-one-2.invariant lines (c.loop-one.invariant lines draft)
