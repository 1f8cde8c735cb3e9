use Rattle.conformance.specs.WalkStates.{AreStatesAt}
use Rattle.conformance.proofs.walk_states.states_at.Given as goal

abbrev pub invariant-loop-index : goal.invariant-loop-index
invariant-loop-index l = AreStatesAt l.kind l.body l.path l.index l.states.items
