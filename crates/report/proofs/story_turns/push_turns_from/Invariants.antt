-- The turns so far, followed by those of the open turn and the remaining steps, are all turns.
use Rattle.std.proofs.Common.{◌≡◌, ◌≤◌, ◌+◌, ◌++◌, map, length}
use Rattle.report.specs.Story.{turns_from}
use Rattle.report.specs.StorySeen.{turn_seen}
use Rattle.report.proofs.story_turns.push_turns_from.Given as goal

abbrev pub invariant-loop-step : goal.invariant-loop-step
invariant-loop-step l =
    (map turn_seen l.turns.items ++ turns_from l.plan (turn_seen l.turn) l.steps ≡ map turn_seen l.fn.turns.items ++ turns_from l.plan (turn_seen l.fn.turn) l.fn.steps)
    × (l.turn.end + length l.steps ≤ l.all)

abbrev pub decreases-loop-step : goal.decreases-loop-step
decreases-loop-step l = length l.steps
