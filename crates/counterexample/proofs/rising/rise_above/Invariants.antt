use Rattle.std.proofs.Common.{◌≡◌, length}
use Rattle.counterexample.specs.Rising.{rise_above}
use Rattle.counterexample.proofs.rising.rise_above.Given as goal

-- the remaining numbers rise exactly when all numbers do
abbrev pub invariant-loop-first : goal.invariant-loop-first
invariant-loop-first l = rise_above l.last l.numbers ≡ rise_above l.fn.last l.fn.numbers

abbrev pub decreases-loop-first : goal.decreases-loop-first
decreases-loop-first l = length l.numbers
