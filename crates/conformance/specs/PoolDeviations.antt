-- The differences between the pools of a recording and a plan, line by line.
use Rattle.std.specs.Prelude.{ℕ, ◌+◌, ◌==◌, ◌&&◌, not, Bool, false, if◌then◌else◌, List, [], ◌∷◌, length, map, filter, position, Option, Some, None, string_bytes}
use Rattle.std.specs.List.{list_any, filter_map, flat_map, enumerate_from}
use Rattle.std.specs.Str.{bytes_eq}
use Rattle.job_bodies.specs.Plan as plans
use Rattle.job_bodies.specs.Plan.{Plan, pool_at}
use Rattle.recordings.specs.declared.pool_sizes.PoolSizes.{PoolSizes}
use Rattle.recordings.specs.RecordingLine.{RecordedLine, Pool}
use Rattle.recordings.specs.Before.{has_pool, is_closed}
use Rattle.recordings.specs.LineSteps.{with_lines_before}
use Rattle.conformance.specs.declared.difference.Difference.{Difference}
use Rattle.conformance.specs.declared.pool_comparison.PoolDeviation.{PoolDeviation}
use Rattle.conformance.specs.declared.pool_comparison.PoolDeviation.TheVariants as code
use Rattle.conformance.specs.Difference.{is_same_difference}
use Rattle.conformance.specs.Sizes.{differences}

-- A difference between the pools of a recording and of a plan. A pool that is not in the plan has its name as a list of
-- bytes.
pub data Deviation : Type 0 where
  UnplannedLabel : ℕ → List ℕ → Deviation
  Differs : ℕ → ℕ → Difference → Deviation
  NotRecorded : ℕ → Deviation

-- The `Deviation` for a difference that the program returns.
abbrev pub deviation_seen : PoolDeviation → Deviation
deviation_seen (code.UnplannedLabel line pool) = UnplannedLabel line (string_bytes pool)
deviation_seen (code.Differs line pool difference) = Differs line pool difference
deviation_seen (code.NotRecorded pool) = NotRecorded pool

-- ---- one line
-- The number of the plan's pool with this name, or `None` if there is no such pool.
abbrev pub pool_named : Plan → List ℕ → Option ℕ
pool_named plan name = position (λ (pool : plans.Pool). bytes_eq pool.name name) plan.pools

-- The option has this pool number.
abbrev pub is_pool : ℕ → Option ℕ → Bool
is_pool pool None = false
is_pool pool (Some one) = one == pool

abbrev pub is_among : List Difference → Difference → Bool
is_among found difference = list_any (λ one. is_same_difference one difference) found

-- The line is a `pool` line of this pool of the plan and has this difference. `is_named` says which pools have an earlier
-- line.
abbrev pub has_difference : Plan → (List ℕ → Bool) → ℕ → Difference → RecordedLine → Bool
has_difference plan is_named pool difference (Pool name sizes) =
    is_pool pool (pool_named plan name) && is_among (differences (not (is_named name)) sizes (pool_at plan pool)) difference
has_difference plan is_named pool difference line = false

-- One of the lines has this difference for this pool of the plan. So the difference has been reported.
unfoldable pub was_reported : Plan → List RecordedLine → ℕ → Difference → Bool
was_reported plan lines pool difference = list_any (λ (before, line). has_difference plan (has_pool before) pool difference line) (with_lines_before lines)

-- The differences in the list that have not been reported before.
abbrev pub unreported : (Difference → Bool) → List Difference → List Difference
unreported is_reported found = filter (λ difference. not (is_reported difference)) found

-- The differences to report for a `pool` line. If the plan has no pool of this name, the pool is reported at its first line.
-- Otherwise each difference is reported that has not been reported for the pool.
abbrev pub deviations_of_pool : Plan → Bool → (ℕ → Difference → Bool) → ℕ → List ℕ → PoolSizes → Option ℕ → List Deviation
deviations_of_pool plan is_first is_reported number name sizes None = if is_first then UnplannedLabel number name ∷ [] else []
deviations_of_pool plan is_first is_reported number name sizes (Some pool) = map (Differs number pool) (unreported (is_reported pool) (differences is_first sizes (pool_at plan pool)))

-- The differences to report for a line. `is_named` says which pools have an earlier line. `is_reported` says which
-- differences have been reported.
abbrev pub reported_by_line : Plan → (List ℕ → Bool) → (ℕ → Difference → Bool) → ℕ → RecordedLine → List Deviation
reported_by_line plan is_named is_reported number (Pool name sizes) = deviations_of_pool plan (not (is_named name)) is_reported number name sizes (pool_named plan name)
reported_by_line plan is_named is_reported number line = []

-- The differences to report for a line after the lines `before`. Each difference of a pool is reported once, at the first
-- line that has it. A pool that is not in the plan is reported once, at its first line.
abbrev pub deviations_by_line : Plan → List RecordedLine → ℕ → RecordedLine → List Deviation
deviations_by_line plan before number line = reported_by_line plan (has_pool before) (was_reported plan before) number line

-- ---- all lines
-- The differences to report for all lines, in order. Lines are numbered from 1.
unfoldable pub deviations_by_lines : Plan → List RecordedLine → List Deviation
deviations_by_lines plan lines = flat_map (λ (before, line). deviations_by_line plan before (length before + 1) line) (with_lines_before lines)

abbrev pub unrecorded_at : (List ℕ → Bool) → ℕ × plans.Pool → Option Deviation
unrecorded_at is_named (number, pool) = if is_named pool.name then None else Some (NotRecorded number)

-- The pools of the plan for which `is_named` is false, in ascending order.
abbrev pub unrecorded_by : (List ℕ → Bool) → Plan → List Deviation
unrecorded_by is_named plan = filter_map (unrecorded_at is_named) (enumerate_from 0 plan.pools)

-- The pools of the plan that have no `pool` line.
unfoldable pub unrecorded : Plan → List RecordedLine → List Deviation
unrecorded plan lines = unrecorded_by (has_pool lines) plan

-- The missing pools to report at the end. None is reported for a recording that is cut off, because its later lines might
-- have named the pools.
abbrev pub deviations_at_end : Plan → List RecordedLine → List Deviation
deviations_at_end plan lines = if is_closed lines then unrecorded plan lines else []
