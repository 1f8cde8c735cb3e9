use Rattle.std.proofs.Common.{List, length}
use Rattle.recordings.specs.RecordingLine.{RecordedLine}
use Rattle.learning.specs.LearningState.{IsDraftOf}
use Rattle.learning.proofs.pass.run_pass.Given as goal

abbrev pub invariant-loop-line : goal.invariant-loop-line
invariant-loop-line l = (lines : List RecordedLine) → IsDraftOf lines l.initial.draft → IsDraftOf lines l.draft

abbrev pub decreases-loop-line : goal.decreases-loop-line
decreases-loop-line l = length l.lines
