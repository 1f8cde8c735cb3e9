use Rattle.std.proofs.Common.{get_or, take}
use Rattle.std.proofs.lemmas.List.{take_more}
use Rattle.recordings.specs.declared.recording_line.RecordedActor.TheVariants.{Job}
use Rattle.recordings.specs.declared.invalidation.Invalidation.{Invalidation}
use Rattle.recordings.specs.declared.invalidation.InvalidatingEvent.TheVariants as event
use Rattle.conformance.specs.Lines.{lines_of}
use Rattle.conformance.proofs.CollectedLists.{events_more}
use Rattle.conformance.proofs.collect_findings.push_counted.Goals as goal

pub loop-invalidation-preserved : goal.loop-invalidation-preserved
loop-invalidation-preserved c =
    let none : Invalidation = record { line = 0; event = event.Refused (Job 0) 0 } in
    let index = c.loop-invalidation.invalidation-index in
    rw (take_more c.args.invalidations.now c.loop-invalidation.invalidation-index none c.loop-invalidation-test.true)
    (events_more (lines_of c.args.recording.now) c.args.without_refusals c.args.findings.now.items c.loop-invalidation.findings.items c.push_invalidation.new.findings.items (take index c.args.invalidations.now) (get_or c.args.invalidations.now index none)
    c.loop-invalidation.invariant c.in_ok-push_invalidation.ensures)
