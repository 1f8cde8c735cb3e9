use Rattle.std.proofs.Common.{Option, IfOk, subst}
use Rattle.recordings.specs.declared.fault.RecordingFault.{RecordingFault}
use Rattle.conformance.specs.Lines.{lines_of}
use Rattle.conformance.specs.Survey.{ReadsAllLines}
use Rattle.conformance.proofs.survey.survey_recording.Goals as goal

pub returns-in-Ok-Some : goal.returns-in-Ok-Some
returns-in-Ok-Some c =
    let begun = c.new-builder.ensures c.args.plan.now c.in_ok-excess_tracker.ensures in
    let read = subst (λ (read : _). IfOk read (ReadsAllLines c.args.plan.now c.args.recording.now c.take_all.new.self)) c.in-Ok-Some.is (c.take_all.ensures begun) in
    subst (λ (fault : Option RecordingFault). ReadsAllLines c.args.plan.now c.args.recording.now c.take_all.new.self fault) c.in-Ok-Some.field-0-is read

pub returns-in_ok-finish-in-Ok-None : goal.returns-in_ok-finish-in-Ok-None
returns-in_ok-finish-in-Ok-None c =
    let begun = c.new-builder.ensures c.args.plan.now c.in_ok-excess_tracker.ensures in
    let read = subst (λ (read : _). IfOk read (ReadsAllLines c.args.plan.now c.args.recording.now c.take_all.new.self)) c.in-Ok-None.is (c.take_all.ensures begun) in
    let through = subst (λ (fault : Option RecordingFault). ReadsAllLines c.args.plan.now c.args.recording.now c.take_all.new.self fault) c.in-Ok-None.field-0-is read in
    (through.0, c.in_ok-finish-in-Ok-None.ensures (lines_of c.args.recording.now) through.1 through.2)
