use Rattle.std.proofs.Common.{sym, ◌∙◌}
use Rattle.conformance.specs.Lines.{lines_of}
use Rattle.conformance.proofs.CollectedLists.{event_added, event_left}
use Rattle.conformance.proofs.collect_findings.push_invalidation.Goals as goal

pub returns-in_ok-push_event : goal.returns-in_ok-push_event
returns-in_ok-push_event c =
    event_added (lines_of c.args.recording.now) c.args.without_refusals c.args.findings.now.items c.push_event.new.findings.items c.args.invalidation (sym c.is_counted.ensures ∙ c.if-is_counted.true) c.in_ok-push_event.ensures

pub returns-else-is_counted : goal.returns-else-is_counted
returns-else-is_counted c = event_left (lines_of c.args.recording.now) c.args.without_refusals c.args.findings.now.items c.args.invalidation (sym c.is_counted.ensures ∙ c.if-is_counted.false)
