use Rattle.std.proofs.Common.{length}
use Rattle.report.proofs.EventLists.{Goes}
use Rattle.report.proofs.event_steps.push_steps.Given as goal

abbrev pub invariant-loop-event : goal.invariant-loop-event
invariant-loop-event l = Goes l.plan l.fn.events l.fn.steps.items l.fn.world.view l.events l.steps.items l.world.view

abbrev pub decreases-loop-event : goal.decreases-loop-event
decreases-loop-event l = length l.events
