use Rattle.conformance.proofs.LastIndices.{IsLastBelow}
use Rattle.conformance.proofs.walk_state.WalkState.last_at.Given as goal

abbrev pub invariant-loop-index : goal.invariant-loop-index
invariant-loop-index l = IsLastBelow l.self.row.items l.end l.index l.last
