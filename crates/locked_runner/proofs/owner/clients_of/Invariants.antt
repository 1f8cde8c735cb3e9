-- The clients so far, followed by the remaining ones, are all clients.
use Rattle.std.proofs.Common.{◌≡◌, ◌++◌, map, drop}
use Rattle.std.specs.List.{enumerate_from}
use Rattle.locked_runner.specs.Owner.{client_list}
use Rattle.locked_runner.proofs.owner.clients_of.Given as goal

abbrev pub invariant-loop-number : goal.invariant-loop-number
invariant-loop-number l = l.owners.items ++ map client_list (enumerate_from l.number (drop l.number l.kinds)) ≡ map client_list (enumerate_from 0 l.kinds)
