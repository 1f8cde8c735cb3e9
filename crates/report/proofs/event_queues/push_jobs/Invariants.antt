-- The values so far, followed by the rest of the queue, are all values.
use Rattle.std.proofs.Common.{◌≡◌, ◌++◌, map, length}
use Rattle.serde_json.specs.View.{view}
use Rattle.report.specs.JsonEvents.{number_data}
use Rattle.report.proofs.event_queues.push_jobs.Given as goal

abbrev pub invariant-loop-job : goal.invariant-loop-job
invariant-loop-job l = map view l.values.items ++ map number_data l.queue.items ≡ map view l.fn.values.items ++ map number_data l.fn.queue.items

abbrev pub decreases-loop-job : goal.decreases-loop-job
decreases-loop-job l = length l.queue.items
