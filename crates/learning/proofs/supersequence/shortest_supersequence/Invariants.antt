use Rattle.std.proofs.Common.{length, ◌-◌, ◌+◌}
use Rattle.learning.proofs.supersequence.shortest_supersequence.Given as goal

abbrev pub decreases-loop-index : goal.decreases-loop-index
decreases-loop-index l = (length l.first - l.index) + (length l.second - l.other)
