use Rattle.std.proofs.Common.{[]}
use Rattle.recordings.specs.RecordingLine.{lines_read}
use Rattle.recordings.specs.Faults.{lines_before}
use Rattle.recordings.specs.CheckedLines.{IsCheckerState, lines_left}
use Rattle.conformance.specs.Survey as spec
use Rattle.conformance.proofs.survey.SurveyBuilder.take_all.Given as goal

abbrev pub invariant-loop-lines : goal.invariant-loop-lines
invariant-loop-lines l = record {
  checked : IsCheckerState (lines_read l.recording) l.lines;
  builder : spec.IsSurveyBuilderOf l.plan [] l.initial.self → spec.IsSurveyBuilderOf l.plan (lines_before (lines_read l.recording) l.lines.number) l.self;
}

abbrev pub decreases-loop-lines : goal.decreases-loop-lines
decreases-loop-lines l = lines_left l.lines
