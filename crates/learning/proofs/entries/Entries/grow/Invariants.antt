use Rattle.std.proofs.Common.{◌≡◌, List, length}
use Rattle.recordings.specs.RecordingLine.{RecordedLine}
use Rattle.learning.specs.declared.inference_limit.InferenceLimit.{InferenceLimit}
use Rattle.learning.specs.LearningState.{AreEntriesOf}
use Rattle.learning.proofs.entries.Entries.grow.Given as goal

abbrev pub invariant-loop-number : goal.invariant-loop-number
invariant-loop-number l = record {
  entries : (lines : List RecordedLine) (beyond : InferenceLimit) → AreEntriesOf lines beyond l.initial.self → AreEntriesOf lines beyond l.self;
  many : length l.self.entries.items ≡ length l.initial.self.entries.items;
}
