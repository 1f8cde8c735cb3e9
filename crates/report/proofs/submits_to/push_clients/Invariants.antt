-- The text so far, followed by the lines of the remaining client kinds, is the text at the start followed by the lines of all client kinds.
use Rattle.std.proofs.Common.{◌≡◌, ◌++◌, length, flat_map}
use Rattle.std.specs.Prelude.{string_bytes}
use Rattle.report.specs.SubmitsTo.{client_lines}
use Rattle.report.proofs.submits_to.push_clients.Given as goal

abbrev pub invariant-loop-client : goal.invariant-loop-client
invariant-loop-client l = string_bytes l.text ++ flat_map (client_lines l.plan l.pool) l.clients ≡ string_bytes l.fn.text ++ flat_map (client_lines l.plan l.pool) l.fn.clients

abbrev pub decreases-loop-client : goal.decreases-loop-client
decreases-loop-client l = length l.clients
