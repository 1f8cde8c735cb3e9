-- The loop of `has_class_shapes`: all classes have their numbers exactly when the remaining classes do.
use Rattle.std.proofs.Common.{◌≡◌, ◌+◌, length, drop}
use Rattle.std.specs.Prelude.{◌==◌}
use Rattle.std.specs.List.{list_all, enumerate_from}
use Rattle.weights.specs.Vector.{class_weights}
use Rattle.weights.proofs.vector.Vector.has_class_shapes.Given as goal

abbrev pub invariant-loop-number : goal.invariant-loop-number
invariant-loop-number l =
    list_all (λ entry. length (class_weights l.self entry.0) == length entry.1.body + 3) (enumerate_from l.number (drop l.number l.plan.classes))
    ≡ list_all (λ entry. length (class_weights l.self entry.0) == length entry.1.body + 3) (enumerate_from 0 l.plan.classes)
