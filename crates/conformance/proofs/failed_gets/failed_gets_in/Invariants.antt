use Rattle.std.proofs.Common.{◌≡◌, ◌≤◌, ◌++◌, List, length}
use Rattle.recordings.specs.RecordingLine.{RecordedLine}
use Rattle.conformance.specs.FailedGets.{AreCounts}
use Rattle.conformance.specs.Lines.{lines_of}
use Rattle.conformance.proofs.failed_gets.failed_gets_in.Given as goal

abbrev pub invariant-loop-line : goal.invariant-loop-line
invariant-loop-line l = (read : List RecordedLine) × (read ++ l.lines ≡ lines_of l.text) × (length (lines_of l.text) ≤ length l.text) × AreCounts read l.counts

abbrev pub decreases-loop-line : goal.decreases-loop-line
decreases-loop-line l = length l.lines
