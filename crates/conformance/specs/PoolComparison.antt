-- The state of a comparison of pools, as a function of the lines read.
use Rattle.std.specs.Prelude.{◌≡◌, ℕ, Bool, List, ◌++◌, ◌||◌, map}
use Rattle.std.specs.HashSet.{contains, contains_text}
use Rattle.job_bodies.specs.Plan.{Plan}
use Rattle.recordings.specs.RecordingLine.{RecordedLine}
use Rattle.recordings.specs.LineParts.{is_end, declares}
use Rattle.recordings.specs.Before.{has_pool, is_closed}
use Rattle.conformance.specs.declared.pool_names.PoolNames.{PoolNames}
use Rattle.conformance.specs.declared.difference.Difference.{Difference}
use Rattle.conformance.specs.declared.reported.PoolDifference.{PoolDifference}
use Rattle.conformance.specs.declared.reported.ReportedDifferences.{ReportedDifferences}
use Rattle.conformance.specs.contracts.reported.PoolDifferencePartialEq.TheImpl as element_eq
use Rattle.conformance.specs.declared.pool_comparison.PoolDeviation.{PoolDeviation}
use Rattle.conformance.specs.declared.pool_comparison.PoolComparison.{PoolComparison}
use Rattle.conformance.specs.PoolDeviations.{Deviation, deviation_seen, has_difference, was_reported}

abbrev pub has_name : PoolNames → List ℕ → Bool
has_name names name = contains_text names.names name

-- The two elements of the set are equal.
abbrev pub is_same_element : PoolDifference → PoolDifference → Bool
is_same_element = (element_eq.ghosts).eq

abbrev pub is_reported : ReportedDifferences → ℕ → Difference → Bool
is_reported reported pool difference = contains is_same_element reported.items (record { pool = pool; difference = difference })

-- The comparison has read these lines. It has the pools with a line, the differences that were reported, and whether there
-- was an `end` line.
pub record IsPoolComparisonOf (plan : Plan) (comparison_state : PoolComparison) (lines : List RecordedLine) : Type 0 where
  pub named : (pool : List ℕ) → has_name comparison_state.named pool ≡ has_pool lines pool
  pub reported : (pool : ℕ) (difference : Difference) → is_reported comparison_state.reported pool difference ≡ was_reported plan lines pool difference
  pub closed : comparison_state.closed ≡ is_closed lines

-- `new` is the comparison `old` after one more line.
pub record AppliesLine (plan : Plan) (old : PoolComparison) (line : RecordedLine) (new : PoolComparison) : Type 0 where
  pub named : (pool : List ℕ) → has_name new.named pool ≡ (has_name old.named pool || declares pool line)
  pub reported : (pool : ℕ) (difference : Difference) → is_reported new.reported pool difference ≡ (is_reported old.reported pool difference || has_difference plan (has_name old.named) pool difference line)
  pub closed : new.closed ≡ (old.closed || is_end line)

-- The list `new` is `old`, followed by these differences.
pub record Adds (old : List PoolDeviation) (reported : List Deviation) (new : List PoolDeviation) : Type 0 where
  pub more : List PoolDeviation
  pub after : new ≡ old ++ more
  pub seen : map deviation_seen more ≡ reported
