-- The values so far, followed by those of the remaining members, are all values.
use Rattle.std.proofs.Common.{◌≡◌, ◌++◌, map, length}
use Rattle.std.specs.Prelude.{flat_map}
use Rattle.serde_json.specs.View.{view}
use Rattle.report.specs.WaitsSeen.{wait_seen}
use Rattle.report.proofs.json_ending.wait_values.Given as goal

abbrev pub invariant-loop-member : goal.invariant-loop-member
invariant-loop-member l = map view l.values.items ++ flat_map (wait_seen l.plan l.world.view) l.members ≡ flat_map (wait_seen l.fn.plan l.fn.world.view) l.fn.members

abbrev pub decreases-loop-member : goal.decreases-loop-member
decreases-loop-member l = length l.members
