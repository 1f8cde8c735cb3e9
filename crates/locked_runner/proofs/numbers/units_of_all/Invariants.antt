use Rattle.std.proofs.Common.{◌≡◌, take, sum_by}
use Rattle.locked_runner.specs.RunNumbers.{capped, units_of_clients}
use Rattle.locked_runner.proofs.numbers.units_of_all.Given as goal

abbrev pub invariant-loop-client : goal.invariant-loop-client
invariant-loop-client l = l.total ≡ capped (sum_by (units_of_clients l.rounds) (take l.client-index l.plan.clients))
