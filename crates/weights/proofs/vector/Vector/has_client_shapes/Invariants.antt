-- The loop of `has_client_shapes`: all client kinds have their numbers exactly when the remaining ones do.
use Rattle.std.proofs.Common.{◌≡◌, ◌+◌, length, drop}
use Rattle.std.specs.Prelude.{◌==◌}
use Rattle.std.specs.List.{list_all, enumerate_from}
use Rattle.weights.specs.Vector.{client_weights}
use Rattle.weights.proofs.vector.Vector.has_client_shapes.Given as goal

abbrev pub invariant-loop-number : goal.invariant-loop-number
invariant-loop-number l =
    list_all (λ entry. length (client_weights l.self entry.0) == length entry.1.body + 1) (enumerate_from l.number (drop l.number l.plan.clients))
    ≡ list_all (λ entry. length (client_weights l.self entry.0) == length entry.1.body + 1) (enumerate_from 0 l.plan.clients)
