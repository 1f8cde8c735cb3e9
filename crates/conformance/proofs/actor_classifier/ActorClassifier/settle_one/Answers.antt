use Rattle.std.proofs.Common.{Bool, subst}
use Rattle.conformance.specs.ClassificationResults.{IsProgressOf, IsSettledResult}
use Rattle.conformance.proofs.Progress.{kept_unready, kept_blocked, ready_of}
use Rattle.conformance.proofs.ProgressAfter.{kept_advanced, reports_advanced}
use Rattle.conformance.proofs.AddsResults.{reports_none}
use Rattle.conformance.proofs.actor_classifier.ActorClassifier.settle_one.Goals as goal

pub returns-in-None-clause-reported : goal.returns-in-None-clause-reported
returns-in-None-clause-reported c = λ lines kept keeps. record {
  kept = kept_unready c.args.plan.now lines c.args.self.now.actors c.args.self.now.known c.args.actor kept c.in-None.ensures;
  tells = reports_none (IsSettledResult c.args.plan.now lines) c.args.self.now.actors c.args.reported.now.items;
}

pub returns-then-progress-clause-reported : goal.returns-then-progress-clause-reported
returns-then-progress-clause-reported c = λ lines kept keeps.
    c.classify_ready.ensures.reported lines kept
    (ready_of c.args.plan.now lines c.args.self.now.actors c.args.self.now.known c.args.actor c.in-Some.progress.known kept
    (subst (λ (b : Bool). IsProgressOf c.args.self.now.actors c.args.self.now.known c.args.actor c.in-Some.progress.known b) c.if-progress.true c.in-Some.ensures))
    keeps

pub returns-else-progress-clause-reported : goal.returns-else-progress-clause-reported
returns-else-progress-clause-reported c = λ lines kept keeps. record {
  kept = kept_advanced c.args.plan.now lines c.args.self.now.actors c.advance.new.self c.args.self.now.known c.args.actor c.in-Some.progress.known c.in-Some.progress.is_ready
      (kept_blocked c.args.plan.now lines c.args.self.now.actors c.args.self.now.known c.args.actor c.in-Some.progress.known kept
      (subst (λ (b : Bool). IsProgressOf c.args.self.now.actors c.args.self.now.known c.args.actor c.in-Some.progress.known b) c.if-progress.false c.in-Some.ensures))
      c.in-Some.ensures c.advance.ensures.later;
  tells = reports_advanced (IsSettledResult c.args.plan.now lines) c.args.self.now.actors c.advance.new.self c.args.actor c.in-Some.progress.known c.advance.ensures.later c.args.reported.now.items;
}
