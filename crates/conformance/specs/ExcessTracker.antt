-- The counts of rounds, as a function of the lines read.
use Rattle.std.specs.Prelude.{◌≡◌, ℕ, false, List, Option}
use Rattle.job_bodies.specs.Plan.{Plan}
use Rattle.recordings.specs.RecordingLine.{RecordedLine}
use Rattle.conformance.specs.RoundExcesses.{excesses_by_lines}
use Rattle.conformance.specs.RoundComparison.{IsRoundComparisonOf}
use Rattle.conformance.specs.declared.excess_tracker.ExcessTracker.{ExcessTracker}
use Rattle.conformance.specs.declared.other_kinds.OtherKinds.{OtherKinds}
use Rattle.conformance.specs.OtherKinds.{AreOfFirst}
use Rattle.conformance.specs.OpenRounds.{AreOpen}

-- The tracker has counted the rounds of `lines`. The list `kinds` says for which client kind each round is counted.
pub record IsExcessTrackerOf (plan : Plan) (kinds : List (Option ℕ)) (lines : List RecordedLine) (excess_tracker : ExcessTracker) : Type 0 where
  pub rounds : AreOpen kinds lines excess_tracker.rounds
  pub comparison_state : IsRoundComparisonOf plan kinds excess_tracker.comparison_state lines
  pub found : excess_tracker.found.items ≡ excesses_by_lines plan kinds lines

-- If `others` has no round, the tracker has counted each round for the first kind of its label.
pub record CountsFirstKinds (plan : Plan) (others : OtherKinds) (lines : List RecordedLine) (excess_tracker : ExcessTracker) : Type 0 where
  pub so : others.has_any ≡ false → (kinds : List (Option ℕ)) → AreOfFirst plan lines kinds → IsExcessTrackerOf plan kinds lines excess_tracker
