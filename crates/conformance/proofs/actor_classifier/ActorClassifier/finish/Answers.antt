use Rattle.std.proofs.lemmas.Result.{on_ok_weaker}
use Rattle.conformance.proofs.Words.{on_ok_both}
use Rattle.conformance.proofs.AllResults.{all_reported}
use Rattle.conformance.proofs.ClassifyRemaining.{left_of}
use Rattle.conformance.proofs.actor_classifier.ActorClassifier.finish.Goals as goal

pub returns : goal.returns
returns c = λ lines earlier keeps stand are.
    let a = c.args in
    on_ok_weaker c.classify_remaining_actors.result
    (λ both. all_reported a.plan.now lines keeps a.self.actors c.classify_remaining_actors.new.self.actors a.self.known stand.kept both.1 earlier a.reported.now.items c.classify_remaining_actors.new.reported.items are both.0)
    (on_ok_both _ _ c.classify_remaining_actors.result
    (c.classify_remaining_actors.ensures.remaining lines keeps stand.paths (left_of a.plan.now lines a.self.actors a.self.known stand.kept))
    c.classify_remaining_actors.ensures.none)
