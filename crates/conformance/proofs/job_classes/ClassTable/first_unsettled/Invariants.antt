use Rattle.std.proofs.Common.{length, ◌-◌, ◌≤◌}
use Rattle.conformance.specs.ActorTables.{AreSettledBefore}
use Rattle.conformance.proofs.job_classes.ClassTable.first_unsettled.Given as goal

abbrev pub invariant-loop-place : goal.invariant-loop-place
invariant-loop-place l = (l.from ≤ length l.path → l.place ≤ length l.path) × (AreSettledBefore l.self l.path l.from → AreSettledBefore l.self l.path l.place)

abbrev pub decreases-loop-place : goal.decreases-loop-place
decreases-loop-place l = length l.path - l.place
