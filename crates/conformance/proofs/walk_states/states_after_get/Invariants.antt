use Rattle.std.proofs.Common.{◌≡◌, ◌++◌}
use Rattle.conformance.specs.WalkStates.{AreAfterGet}
use Rattle.conformance.proofs.walk_states.states_after_get.Given as goal

abbrev pub invariant-loop-state : goal.invariant-loop-state
invariant-loop-state l = record {
  front : l.fn.states.items ≡ l.yielded ++ l.state-iterator.rest.items;
  after : AreAfterGet l.kind l.body l.job l.yielded l.next.items;
}
