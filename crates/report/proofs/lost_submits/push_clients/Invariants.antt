-- The texts so far, followed by those of the remaining client kinds, are the texts at the start followed by those of all client kinds.
use Rattle.std.proofs.Common.{◌≡◌, ◌++◌, length, map, flat_map}
use Rattle.std.specs.Prelude.{string_bytes}
use Rattle.report.specs.LostSubmits.{lost_by_client}
use Rattle.report.proofs.lost_submits.push_clients.Given as goal

abbrev pub invariant-loop-client : goal.invariant-loop-client
invariant-loop-client l =
    map string_bytes l.texts.items ++ flat_map (lost_by_client l.plan l.pool) l.clients ≡ map string_bytes l.fn.texts.items ++ flat_map (lost_by_client l.plan l.pool) l.fn.clients

abbrev pub decreases-loop-client : goal.decreases-loop-client
decreases-loop-client l = length l.clients
