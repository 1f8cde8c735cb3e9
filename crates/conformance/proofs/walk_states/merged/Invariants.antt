use Rattle.std.proofs.Common.{take}
use Rattle.conformance.proofs.MergedStates.{AreMergedOf}
use Rattle.conformance.proofs.walk_states.merged.Given as goal

abbrev pub invariant-loop-state : goal.invariant-loop-state
invariant-loop-state l = AreMergedOf l.state-items (take l.state-index l.state-items) l.merged.items
