use Rattle.support.proofs.NumbersPushed.{ArePushed}
use Rattle.support.proofs.places.push_numbers.Given as goal

abbrev pub invariant-loop-slot : goal.invariant-loop-slot
invariant-loop-slot g l = ArePushed l.slots.items l.fn.numbers.items l.numbers.items l.slot-index
