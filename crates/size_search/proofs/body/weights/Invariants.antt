-- The weights at the later positions, in reverse order.
use Rattle.std.proofs.Common.{◌≡◌, ◌-◌, length, drop, reverse}
use Rattle.size_search.specs.Steady.{weight_at, weights_from}
use Rattle.size_search.proofs.body.weights.Given as goal

abbrev pub invariant-loop-behind : goal.invariant-loop-behind
invariant-loop-behind l = record {
  weight : l.weight ≡ weight_at l.plan l.vector l.least l.body l.last (drop (length l.body - l.behind) l.body);
  weights : l.weights.items ≡ reverse (weights_from l.plan l.vector l.least l.body l.last (drop (length l.body - l.behind) l.body));
}
