use Rattle.std.proofs.Common.{take}
use Rattle.conformance.proofs.MergedStates.{IsMergedOf}
use Rattle.conformance.proofs.walk_states.merged_state.Given as goal

abbrev pub invariant-loop-state : goal.invariant-loop-state
invariant-loop-state l = IsMergedOf l.states (take l.state-index l.states) l.one l.merged
