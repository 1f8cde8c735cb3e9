use Rattle.recordings.specs.RecordingLine.{lines_read}
use Rattle.recordings.specs.CheckedLines.{lines_left, IsCheckerState}
use Rattle.recordings.proofs.whole_text.next_fault.Given as goal

abbrev pub invariant-loop-line : goal.invariant-loop-line
invariant-loop-line l = IsCheckerState (lines_read l.text) l.lines

abbrev pub decreases-loop-line : goal.decreases-loop-line
decreases-loop-line l = lines_left l.lines
