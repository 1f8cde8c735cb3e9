-- The text so far, followed by what the remaining members wait for, is the whole text.
use Rattle.std.proofs.Common.{◌≡◌, ◌++◌, length}
use Rattle.std.specs.Prelude.{flat_map, string_bytes}
use Rattle.report.specs.StorySeen.{wait_seen}
use Rattle.report.proofs.story_waits.push_each.Given as goal

abbrev pub invariant-loop-member : goal.invariant-loop-member
invariant-loop-member l =
    string_bytes l.text ++ flat_map (wait_seen l.plan l.world.view) l.members ≡ string_bytes l.fn.text ++ flat_map (wait_seen l.plan l.world.view) l.fn.members

abbrev pub decreases-loop-member : goal.decreases-loop-member
decreases-loop-member l = length l.members
