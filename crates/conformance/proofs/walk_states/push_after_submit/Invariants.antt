use Rattle.std.proofs.Common.{ℕ, List, ◌++◌, map, take}
use Rattle.conformance.specs.declared.walk_state.WalkState.{WalkState}
use Rattle.conformance.specs.WalkStates.{AreAfterSubmit}
use Rattle.conformance.proofs.walk_states.push_after_submit.Given as goal

abbrev pub invariant-loop-index : goal.invariant-loop-index
invariant-loop-index l = (choices : List (WalkState × ℕ)) → AreAfterSubmit l.body l.job choices l.initial.next.items → AreAfterSubmit l.body l.job (choices ++ map (λ class. (l.fn.state, class)) (take l.index l.classes)) l.next.items
