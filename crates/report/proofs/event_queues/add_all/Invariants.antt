-- The rest of the steps makes of the queue so far what all of them make of the queue at first.
use Rattle.std.proofs.Common.{◌≡◌, length}
use Rattle.report.specs.EventsShown.{queue_from}
use Rattle.report.proofs.event_queues.add_all.Given as goal

abbrev pub invariant-loop-step : goal.invariant-loop-step
invariant-loop-step l = queue_from l.pool l.queue.items l.steps ≡ queue_from l.fn.pool l.fn.queue.items l.fn.steps

abbrev pub decreases-loop-step : goal.decreases-loop-step
decreases-loop-step l = length l.steps
