use Rattle.std.proofs.Common.{Option, Some, None, refl, subst, ◌∙◌}
use Rattle.recordings.specs.declared.recording_line.RecordedActor.{RecordedActor}
use Rattle.conformance.specs.ClassificationResults.{IsStep, IsSettledResult}
use Rattle.conformance.proofs.ActorSteps.{step_then}
use Rattle.conformance.proofs.AddsResults.{reports_none}
use Rattle.conformance.proofs.actor_classifier.ActorClassifier.settle_chain.Goals as goal

pub loop-next-init : goal.loop-next-init
loop-next-init c = record {
  reported = λ lines kept keeps. record { kept = kept; tells = reports_none (IsSettledResult c.args.plan.now lines) c.args.self.now.actors c.args.reported.now.items };
  paths = refl;
}

pub loop-next-preserved : goal.loop-next-preserved
loop-next-preserved c = record {
  reported = λ lines kept keeps.
      let a = c.args in
      let current = c.loop-next.invariant.reported lines kept keeps in
      let now = c.in_ok-next.ensures.reported lines current.kept keeps in
      step_then a.plan.now lines a.self.now.actors c.loop-next.self.actors c.settle_one.new.self.actors c.loop-next.self.known c.settle_one.new.self.known (Some c.loop-next.one) (Some c.in-Some.next) a.reported.now.items c.loop-next.reported.items c.settle_one.new.reported.items current
      (subst (λ (next : Option RecordedActor). IsStep a.plan.now lines c.loop-next.self.actors c.settle_one.new.self.actors c.settle_one.new.self.known next c.loop-next.reported.items c.settle_one.new.reported.items) c.in-Some.is now);
  paths = c.settle_one.ensures.paths ∙ c.loop-next.invariant.paths;
}

pub returns-in-None-clause-reported : goal.returns-in-None-clause-reported
returns-in-None-clause-reported c = λ lines kept keeps.
    let a = c.args in
    let current = c.loop-next.invariant.reported lines kept keeps in
    let now = c.in_ok-next.ensures.reported lines current.kept keeps in
    step_then a.plan.now lines a.self.now.actors c.loop-next.self.actors c.settle_one.new.self.actors c.loop-next.self.known c.settle_one.new.self.known (Some c.loop-next.one) None a.reported.now.items c.loop-next.reported.items c.settle_one.new.reported.items current
    (subst (λ (next : Option RecordedActor). IsStep a.plan.now lines c.loop-next.self.actors c.settle_one.new.self.actors c.settle_one.new.self.known next c.loop-next.reported.items c.settle_one.new.reported.items) c.in-None.is now)
