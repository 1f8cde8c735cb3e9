-- The lines so far, followed by those of the open line and the remaining turns, are all lines.
use Rattle.std.proofs.Common.{◌≡◌, ◌≤◌, ◌+◌, ◌++◌, map, length}
use Rattle.report.specs.Story.{lines, lines_from}
use Rattle.report.specs.StorySeen.{turn_seen, line_seen}
use Rattle.report.proofs.story_lines.push_folded.Given as goal

abbrev pub invariant-loop-turn : goal.invariant-loop-turn
invariant-loop-turn l =
    (map line_seen l.lines.items ++ lines_from (line_seen l.line) (map turn_seen l.rest) ≡ map line_seen l.fn.lines.items ++ lines (map turn_seen l.turns))
    × (l.line.times + length l.rest ≤ length l.turns)

abbrev pub decreases-loop-turn : goal.decreases-loop-turn
decreases-loop-turn l = length l.rest
