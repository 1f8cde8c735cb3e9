-- The clients before this one have their rows.
use Rattle.std.proofs.Common.{◌≡◌, map, take}
use Rattle.size_search.specs.Steady.{client_row}
use Rattle.size_search.proofs.rows.clients_of.Given as goal

abbrev pub invariant-loop-client : goal.invariant-loop-client
invariant-loop-client l = map (λ row. row.items) l.rows.items ≡ map (client_row l.plan l.jobs) (take l.client-index l.plan.clients)
