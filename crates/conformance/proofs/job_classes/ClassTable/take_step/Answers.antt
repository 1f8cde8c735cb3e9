use Rattle.std.proofs.Common.{List, [], ◌∷◌, ◌++◌, sym, subst}
use Rattle.recordings.specs.declared.step.RecordedStep.{RecordedStep}
use Rattle.recordings.specs.declared.step.RecordedStep.TheVariants as recorded
use Rattle.conformance.specs.declared.step.PathStep.{PathStep}
use Rattle.conformance.specs.Classes.{AreStepsOf}
use Rattle.conformance.proofs.SettledPaths.{stand_get, stand_submit}
use Rattle.conformance.proofs.job_classes.ClassTable.take_step.Goals as goal

pub returns-in_ok-push-in-Gets-clause-represents : goal.returns-in_ok-push-in-Gets-clause-represents
returns-in_ok-push-in-Gets-clause-represents c = λ plan lines path known before is.
    subst (λ (one : RecordedStep). AreStepsOf plan lines (path ++ one ∷ []) c.push.new.self.items) (sym c.in-Gets.is)
    (subst (λ (steps : List PathStep). AreStepsOf plan lines (path ++ recorded.Gets c.in-Gets.place ∷ []) steps) (sym c.in_ok-push-in-Gets.ensures.items)
    (stand_get plan lines path c.args.steps.now.items c.in-Gets.place before))

pub returns-in_ok-push-in-Submits-clause-represents : goal.returns-in_ok-push-in-Submits-clause-represents
returns-in_ok-push-in-Submits-clause-represents c = λ plan lines path known before is.
    subst (λ (one : RecordedStep). AreStepsOf plan lines (path ++ one ∷ []) c.push-in-Submits.new.self.items) (sym c.in-Submits.is)
    (subst (λ (steps : List PathStep). AreStepsOf plan lines (path ++ recorded.Submits c.in-Submits.job ∷ []) steps) (sym c.in_ok-push-in-Submits.ensures.items)
    (stand_submit plan lines path c.args.steps.now.items c.in-Submits.job c.take_classes-known.result.classes before
    (c.take_classes-known.ensures.classes plan lines known is)))
