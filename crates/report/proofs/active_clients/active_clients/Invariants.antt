-- The clients found so far, followed by those of the remaining events, are those of all events.
use Rattle.std.proofs.Common.{◌≡◌, ◌++◌, length}
use Rattle.report.specs.Description.{active_clients}
use Rattle.report.proofs.active_clients.active_clients.Given as goal

abbrev pub invariant-loop-event : goal.invariant-loop-event
invariant-loop-event l = l.clients.items ++ active_clients l.events ≡ active_clients l.fn.events

abbrev pub decreases-loop-event : goal.decreases-loop-event
decreases-loop-event l = length l.events
