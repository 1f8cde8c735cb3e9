use Rattle.conformance.proofs.EmptyTables.{kept_none}
use Rattle.conformance.proofs.AllResults.{reported_none}
use Rattle.conformance.proofs.actor_classifier.ActorClassifier.new.Goals as goal

pub returns-clause-represents : goal.returns-clause-represents
returns-clause-represents c = λ plan. record {
  paths = c.new.ensures;
  kept = kept_none plan c.new-2.result c.new-3.result c.new-2.ensures c.new-3.ensures;
}

pub returns-clause-reported : goal.returns-clause-reported
returns-clause-reported c = λ plan. reported_none plan
