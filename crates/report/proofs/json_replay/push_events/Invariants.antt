-- The lines so far, followed by those of the remaining events, are all lines.
use Rattle.std.proofs.Common.{◌≡◌, ◌++◌, map, length}
use Rattle.serde_json.specs.View.{view}
use Rattle.interleaving.specs.EventLine.{Perform}
use Rattle.report.specs.JsonWitness.{replay_line}
use Rattle.report.proofs.json_replay.push_events.Given as goal

abbrev pub invariant-loop-event : goal.invariant-loop-event
invariant-loop-event l =
    map view l.values.items ++ map (λ event. replay_line l.plan (Perform event)) l.events ≡ map view l.fn.values.items ++ map (λ event. replay_line l.fn.plan (Perform event)) l.fn.events

abbrev pub decreases-loop-event : goal.decreases-loop-event
decreases-loop-event l = length l.events
