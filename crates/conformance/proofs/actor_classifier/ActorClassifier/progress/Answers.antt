use Rattle.std.proofs.Common.{sym, ◌∙◌}
use Rattle.conformance.proofs.Progress.{progress_of}
use Rattle.conformance.proofs.actor_classifier.ActorClassifier.progress.Goals as goal

pub returns : goal.returns
returns c =
    progress_of c.args.self.now.actors c.args.self.now.known c.args.actor c.in_ok-ended_path.ended_path.now c.first_unsettled-known.result c.len.result c.deref.result.now c.deref.ensures.value
    (sym c.in_ok-ended_path.ensures) c.first_unsettled-known.ensures.within c.first_unsettled-known.ensures.before c.first_unsettled-known.ensures.there
    (c.len.ensures ∙ sym c.deref.ensures.len)
