use Rattle.std.proofs.Common.{[]}
use Rattle.learning.specs.Counts.{Kinds}
use Rattle.learning.specs.LearningState.{AreCountsOf}
use Rattle.learning.proofs.counts.zero_counts.Given as goal

abbrev pub invariant-loop : goal.invariant-loop
invariant-loop l = (kinds : Kinds) → AreCountsOf kinds [] l.counts.items
