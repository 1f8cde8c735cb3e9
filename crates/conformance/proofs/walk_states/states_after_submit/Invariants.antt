use Rattle.std.proofs.Common.{◌≡◌, ◌++◌}
use Rattle.conformance.specs.WalkStates.{AreAfterSubmit, choices}
use Rattle.conformance.proofs.walk_states.states_after_submit.Given as goal

abbrev pub invariant-loop-state : goal.invariant-loop-state
invariant-loop-state l = record {
  front : l.fn.states.items ≡ l.yielded ++ l.state-iterator.rest.items;
  after : AreAfterSubmit l.body l.job (choices l.yielded l.classes) l.next.items;
}
