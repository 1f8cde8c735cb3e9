use Rattle.std.proofs.lemmas.Result.{on_ok_weaker}
use Rattle.recordings.specs.RecordingLine.{line_view}
use Rattle.conformance.proofs.AllResults.{reported_more}
use Rattle.conformance.proofs.actor_classifier.ActorClassifier.take.Goals as goal

pub returns-clause-all : goal.returns-clause-all
returns-clause-all c = λ before earlier keeps stand are.
    on_ok_weaker c.take_line.result
    (reported_more c.args.plan.now before (line_view c.args.line.now) keeps earlier c.args.reported.now.items c.take_line.new.reported.items are)
    (c.take_line.ensures.reported before keeps stand)
