use Rattle.std.proofs.Common.{length}
use Rattle.recordings.specs.RecordingLine.{lines_read}
use Rattle.learning.specs.Counts.{AreOfKinds}
use Rattle.learning.specs.LearningState.{AreCountsOf, kinds_in, names_of}
use Rattle.learning.proofs.LoopState.{LoopState, well_formed}
use Rattle.learning.proofs.counts.kind_counts.Given as goal

abbrev pub invariant-loop-line : goal.invariant-loop-line
invariant-loop-line l = LoopState (λ before. AreCountsOf (kinds_in l.kinds) before l.counts.items × AreOfKinds (kinds_in l.kinds) (names_of l.entries) before) (well_formed (lines_read l.recording)) l.lines

abbrev pub decreases-loop-line : goal.decreases-loop-line
decreases-loop-line l = length l.lines
