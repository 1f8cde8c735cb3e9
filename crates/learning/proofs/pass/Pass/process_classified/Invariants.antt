use Rattle.std.proofs.Common.{List}
use Rattle.recordings.specs.RecordingLine.{RecordedLine}
use Rattle.learning.specs.LearningState.{IsDraftOf}
use Rattle.learning.proofs.pass.Pass.process_classified.Given as goal

abbrev pub invariant-loop-one : goal.invariant-loop-one
invariant-loop-one l = (lines : List RecordedLine) → IsDraftOf lines l.initial.draft → IsDraftOf lines l.draft
