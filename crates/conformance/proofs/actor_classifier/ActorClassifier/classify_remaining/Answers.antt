use Rattle.std.proofs.Common.{ap, is_some, sym, subst}
use Rattle.std.proofs.lemmas.Result.{on_ok_weaker}
use Rattle.recordings.proofs.Refusals.{same_actor}
use Rattle.conformance.specs.declared.actor_table.ActorTable.{ActorTable}
use Rattle.conformance.specs.RemainingActors.{IsStateAtEnd}
use Rattle.conformance.specs.ClassifiedActor.{IsCorrectResult}
use Rattle.conformance.specs.ClassificationResults.{AddsResults}
use Rattle.conformance.proofs.AddsResults.{reports_same}
use Rattle.conformance.proofs.ClassifyRemaining.{left_same, same_without, left_then, reports_left}
use Rattle.conformance.proofs.actor_classifier.ActorClassifier.classify_remaining.Goals as goal

pub returns-in_default-clause-remaining : goal.returns-in_default-clause-remaining
returns-in_default-clause-remaining c = λ lines keeps paths remaining none.
    let a = c.args in
    let same = same_without a.self.now.actors c.remove.new.self a.actor (sym c.in_default.ensures.value) (λ one. same_actor a.actor one) c.remove.ensures.later in (
      left_same a.plan.now lines a.self.now.actors c.remove.new.self a.self.now.known same remaining,
      reports_same (IsCorrectResult a.plan.now lines) a.self.now.actors c.remove.new.self (λ one. ap is_some (same one)) a.reported.now.items,
    )

pub returns-clause-remaining : goal.returns-clause-remaining
returns-clause-remaining c = λ lines keeps paths remaining none.
    let a = c.args in
    let there = sym c.in-Some.ensures.value in
    let by = c.in_ok-actor_path.ensures lines paths (remaining.at a.actor c.in-Some.kept there) in
    on_ok_weaker c.classify.result
    (λ t. (
      subst (λ (actors : ActorTable). IsStateAtEnd a.plan.now lines actors c.classify.new.self.known) (sym c.classify.ensures.actors)
          (left_then a.plan.now lines keeps a.self.now.actors c.remove.new.self a.self.now.known c.classify.new.self.known a.actor c.in-Some.kept there c.in_ok-actor_path.actor_path a.reported.now.items c.classify.new.reported.items remaining none by t c.remove.ensures.later),
      subst (λ (actors : ActorTable). AddsResults (IsCorrectResult a.plan.now lines) a.self.now.actors actors a.reported.now.items c.classify.new.reported.items) (sym c.classify.ensures.actors)
          (reports_left a.plan.now lines keeps a.self.now.actors c.remove.new.self a.self.now.known c.classify.new.self.known a.actor c.in-Some.kept there c.in_ok-actor_path.actor_path a.reported.now.items c.classify.new.reported.items remaining none by t c.remove.ensures.later),
    ))
    c.classify.ensures.reported
