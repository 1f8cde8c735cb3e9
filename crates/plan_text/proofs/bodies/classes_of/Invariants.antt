use Rattle.std.proofs.Common.{◌≡◌, ◌++◌, length}
use Rattle.support.proofs.Loops.{Reads}
use Rattle.plan_text.specs.Bodies as spec
use Rattle.plan_text.proofs.bodies.classes_of.Given as goal

abbrev pub invariant-loop-entry : goal.invariant-loop-entry
invariant-loop-entry l = record {
  many : length l.classes.items ≡ length l.yielded;
  front : l.fn.entries.items ≡ l.yielded ++ l.entry-iterator.rest.items;
  read : Reads (spec.class_of l.pools l.names) l.fn.entries.items (length l.yielded) l.classes.items;
}
