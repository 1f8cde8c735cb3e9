use Rattle.std.proofs.Common.{List}
use Rattle.std.specs.List.{All}
use Rattle.recordings.specs.RecordingLine.{RecordedLine}
use Rattle.learning.specs.LearningState.{IsDraftOf}
use Rattle.learning.specs.Names.{IsNamedClass}
use Rattle.learning.proofs.draft.PlanDraft.copied_classes.Given as goal

abbrev pub invariant-loop-entry : goal.invariant-loop-entry
invariant-loop-entry l = (lines : List RecordedLine) → IsDraftOf lines l.self → All (IsNamedClass lines) l.classes.items
