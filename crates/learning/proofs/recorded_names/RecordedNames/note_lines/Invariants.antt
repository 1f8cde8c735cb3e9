use Rattle.recordings.specs.RecordingLine.{lines_read}
use Rattle.recordings.specs.Faults.{lines_before}
use Rattle.recordings.specs.CheckedLines.{IsCheckerState, lines_left}
use Rattle.learning.specs.LearningState.{AreNamesOf, IsDraftOf}
use Rattle.learning.specs.LabelRounds.{AreLabelRoundsOf}
use Rattle.learning.specs.FirstPass.{well_formed}
use Rattle.learning.proofs.recorded_names.RecordedNames.note_lines.Given as goal

abbrev pub invariant-loop-line : goal.invariant-loop-line
invariant-loop-line l = record {
  checked : IsCheckerState (lines_read l.recording) l.lines;
  named : AreNamesOf l.self (lines_before (lines_read l.recording) l.lines.number);
  rounds : AreLabelRoundsOf l.self.label_rounds (lines_before (lines_read l.recording) l.lines.number);
  draft : IsDraftOf (well_formed (lines_read l.recording)) l.self.draft;
}

abbrev pub decreases-loop-line : goal.decreases-loop-line
decreases-loop-line l = lines_left l.lines
