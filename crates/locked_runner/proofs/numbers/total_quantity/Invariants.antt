-- The numbers are the quantities for one more generation than the loop has counted.
use Rattle.std.proofs.Common.{suc}
use Rattle.locked_runner.specs.RunNumbers.{AreQuantities, own_quantity}
use Rattle.locked_runner.proofs.numbers.total_quantity.Given as goal

abbrev pub invariant-loop-generation : goal.invariant-loop-generation
invariant-loop-generation l = AreQuantities l.plan (own_quantity l.fn.measure) (suc l.generation) l.numbers.items
