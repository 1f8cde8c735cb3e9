use Rattle.support.specs.Entry.{AreFree}
use Rattle.support.proofs.places.allocate_slots.Given as goal

abbrev pub invariant-loop : goal.invariant-loop
invariant-loop g l = AreFree l.slots.items
