use Rattle.std.proofs.Common.{◌≡◌, ◌≤◌, ℕ, drop, take, length, List, Option}
use Rattle.recordings.specs.PathsOfLines.{KeepsRules}
use Rattle.conformance.specs.ExcessTracker.{IsExcessTrackerOf}
use Rattle.conformance.specs.Lines.{lines_of}
use Rattle.conformance.specs.OtherKinds.{AreKindsBy}
use Rattle.conformance.proofs.excess_tracker.excesses.Given as goal

abbrev pub invariant-loop-line : goal.invariant-loop-line
invariant-loop-line l = record {
  rest : l.lines ≡ drop l.number (lines_of l.recording);
  within : l.number ≤ length (lines_of l.recording);
  few : length (lines_of l.recording) ≤ length l.recording;
  excess_tracker : (kinds : List (Option ℕ)) → KeepsRules (lines_of l.recording) → AreKindsBy l.plan l.others (lines_of l.recording) kinds → IsExcessTrackerOf l.plan kinds (take l.number (lines_of l.recording)) l.excess_tracker;
}

abbrev pub decreases-loop-line : goal.decreases-loop-line
decreases-loop-line l = length l.lines
