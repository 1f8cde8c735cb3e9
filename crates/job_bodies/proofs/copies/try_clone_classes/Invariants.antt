-- The loop of `try_clone_classes`: the copies are the classes before the current one.
use Rattle.std.proofs.Common.{◌≡◌, take}
use Rattle.job_bodies.proofs.copies.try_clone_classes.Given as goal

abbrev pub invariant-loop-class : goal.invariant-loop-class
invariant-loop-class l = l.copies.items ≡ take l.class-index l.classes
