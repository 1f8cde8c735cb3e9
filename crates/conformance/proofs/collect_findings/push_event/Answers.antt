use Rattle.conformance.specs.Lines.{lines_of}
use Rattle.conformance.proofs.CollectedLists.{event_pushed}
use Rattle.conformance.proofs.collect_findings.push_event.Goals as goal

pub returns : goal.returns
returns c =
    event_pushed (lines_of c.args.recording.now) c.args.findings.now.items c.push.new.self.items c.args.invalidation c.in_ok-label.label c.in_ok-label.ensures c.in_ok-push.ensures.items
