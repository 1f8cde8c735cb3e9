use Rattle.std.specs.Prelude.{Contains, IfSome}
use Rattle.conformance.proofs.narrowing.last_class.Given as goal

abbrev pub invariant-loop-class : goal.invariant-loop-class
invariant-loop-class l = IfSome l.last (λ class. Contains l.classes class)
