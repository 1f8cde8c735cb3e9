use Rattle.std.proofs.Common.{◌≡◌, ◌&&◌, List, [], take, true, refl, sym, subst, ◌∙◌}
use Rattle.std.proofs.lemmas.List.{take_more, take_all}
use Rattle.std.proofs.lemmas.List.Folds.{list_any_at}
use Rattle.recordings.specs.ActorPath.{submits}
use Rattle.recordings.specs.declared.step.RecordedStep.{RecordedStep}
use Rattle.recordings.specs.declared.step.RecordedStep.TheVariants as recorded
use Rattle.recordings.proofs.Tests.{and_first, and_second}
use Rattle.conformance.specs.declared.step.PathStep.{PathStep}
use Rattle.conformance.specs.Classes.{AreStepsOf, none}
use Rattle.conformance.specs.ActorTables.{AreRemoved}
use Rattle.conformance.proofs.Words.{both_true, of_one}
use Rattle.conformance.proofs.RemovedJobs.{classes_still, was_there, settled_still, taken_more}
use Rattle.conformance.proofs.job_classes.ClassTable.take_path.Goals as goal

pub loop-step-init : goal.loop-step-init
loop-step-init c = record {
  represents = λ plan lines known decided. subst (λ (steps : List PathStep). AreStepsOf plan lines [] steps) (sym c.clear.ensures.items) none;
  decided = λ are all once. refl;
  gone = λ one. refl;
}

pub loop-step-preserved : goal.loop-step-preserved
loop-step-preserved c =
    let a = c.args in
    let l = c.loop-step in
    let front = take l.step-index a.path.now in
    record {
      represents = λ plan lines known decided.
          let both : (l.is_decided && c.in_ok-is_step_decided.is_step_decided) ≡ true = sym c.both_hold-is_decided.ensures ∙ decided in
          rw (take_more a.path.now l.step-index (recorded.Submits 0) c.loop-step-test.true)
          (c.in_ok-is_step_decided.ensures.represents plan lines front (classes_still plan lines a.self.now l.self front l.invariant.gone known) (l.invariant.represents plan lines known (and_first _ _ both)) (and_second _ _ both));
      decided = λ are all once.
          c.both_hold-is_decided.ensures ∙ both_true _ _ (l.invariant.decided are all once)
          (c.in_ok-is_step_decided.ensures.decided (λ job known submitted there. are job known (list_any_at (submits job) a.path.now l.step-index (recorded.Submits 0) c.loop-step-test.true (of_one (submits job) _ submitted)) (was_there a.self.now l.self front l.invariant.gone job known there))
          (settled_still a.self.now l.self a.path.now l.step-index c.loop-step-test.true l.invariant.gone all once));
      gone = rw (take_more a.path.now l.step-index (recorded.Submits 0) c.loop-step-test.true)
          (taken_more a.self.now l.self c.take_step.new.self front _ l.invariant.gone c.in_ok-is_step_decided.ensures.gone);
    }

pub returns-clause-represents : goal.returns-clause-represents
returns-clause-represents c = λ plan lines known decided.
    subst (λ (path : List RecordedStep). AreStepsOf plan lines path c.loop-step.steps.items) (take_all c.loop-step.step-index c.args.path.now c.loop-step-test.false) (c.loop-step.invariant.represents plan lines known decided)

pub returns-clause-gone : goal.returns-clause-gone
returns-clause-gone c = subst (λ (path : List RecordedStep). AreRemoved c.args.self.now path c.loop-step.self) (take_all c.loop-step.step-index c.args.path.now c.loop-step-test.false) c.loop-step.invariant.gone
