-- The weight of the open jobs at this position, and the largest such weight so far.
use Rattle.std.proofs.Common.{◌≡◌}
use Rattle.size_search.specs.Steady.{greatest_upto, open_weight}
use Rattle.size_search.proofs.body.most.Given as goal

abbrev pub invariant-loop-position : goal.invariant-loop-position
invariant-loop-position l = record {
  here : l.current_weight ≡ open_weight l.vector l.body l.position;
  most : l.most ≡ greatest_upto (open_weight l.vector l.body) l.position;
}
