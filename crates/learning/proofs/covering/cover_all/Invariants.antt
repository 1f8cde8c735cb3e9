use Rattle.std.proofs.Common.{List}
use Rattle.recordings.specs.RecordingLine.{RecordedLine}
use Rattle.learning.specs.LearningState.{IsDraftOf}
use Rattle.learning.proofs.covering.cover_all.Given as goal

abbrev pub invariant-loop : goal.invariant-loop
invariant-loop l = (lines : List RecordedLine) → IsDraftOf lines l.initial.draft → IsDraftOf lines l.draft
