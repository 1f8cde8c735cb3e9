use Rattle.std.proofs.Common.{◌≡◌, take}
use Rattle.support.specs.In.{In}
use Rattle.conformance.specs.declared.walk_state.WalkState.{WalkState}
use Rattle.conformance.proofs.walk_states.has_state_with.Given as goal

abbrev pub invariant-loop-state : goal.invariant-loop-state
invariant-loop-state l = (one : WalkState) → In one (take l.state-index l.states) → one.jobs.items ≡ l.jobs → ⊥
