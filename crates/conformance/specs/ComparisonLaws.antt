-- Laws about the results of the comparisons for all lines.
use Rattle.std.specs.Prelude.{◌≡◌, ◌<◌, ◌+◌, ℕ, Bool, true, not, List, [], ◌∷◌, ◌++◌, length, Option}
use Rattle.job_bodies.specs.Plan.{Plan, pool_at}
use Rattle.recordings.specs.declared.pool_sizes.PoolSizes.{PoolSizes}
use Rattle.recordings.specs.RecordingLine.{RecordedLine, Pool}
use Rattle.recordings.specs.Before.{has_pool, is_closed}
use Rattle.conformance.specs.Sizes.{IsAsPlanned}
use Rattle.conformance.specs.Rounds.{IsWithinPlan}
use Rattle.conformance.specs.PoolDeviations.{deviations_by_line, deviations_by_lines, deviations_at_end}
use Rattle.conformance.specs.RoundExcesses.{rounds_of, excesses_by_line, excesses_by_lines}

-- ---- line by line
-- One more line adds its own differences, and changes none of the earlier ones.
abbrev pub DeviationsAddUp : Type 0
DeviationsAddUp = (plan : Plan) (before : List RecordedLine) (line : RecordedLine)
    → deviations_by_lines plan (before ++ line ∷ []) ≡ deviations_by_lines plan before ++ deviations_by_line plan before (length before + 1) line

abbrev pub ExcessesAddUp : Type 0
ExcessesAddUp = (plan : Plan) (kinds : List (Option ℕ)) (before : List RecordedLine) (line : RecordedLine)
    → excesses_by_lines plan kinds (before ++ line ∷ []) ≡ excesses_by_lines plan kinds before ++ excesses_by_line plan kinds before (length before + 1) line

-- ---- no differences
-- The plan has a pool of this name, and these sizes are as planned. The number of prestarted threads is compared only in the
-- first line of the pool.
pub record IsPlannedPool (plan : Plan) (is_first : Bool) (name : List ℕ) (sizes : PoolSizes) : Type 0 where
  pub pool : ℕ
  pub there : pool < length plan.pools
  pub named : (pool_at plan pool).name ≡ name
  pub sizes_agree : IsAsPlanned is_first sizes (pool_at plan pool)

abbrev pub PoolsAreAsPlanned : Type 0
PoolsAreAsPlanned = (plan : Plan) (lines : List RecordedLine) → deviations_by_lines plan lines ≡ []
    → (before after : List RecordedLine) (name : List ℕ) (sizes : PoolSizes) → before ++ Pool name sizes ∷ after ≡ lines → IsPlannedPool plan (not (has_pool before name)) name sizes

abbrev pub PoolsAreRecorded : Type 0
PoolsAreRecorded = (plan : Plan) (lines : List RecordedLine) → is_closed lines ≡ true → deviations_at_end plan lines ≡ []
    → (pool : ℕ) → pool < length plan.pools → has_pool lines (pool_at plan pool).name ≡ true

-- If no line of a recording has an excess, then after each line every client kind has at most as many rounds as the plan
-- allows.
abbrev pub RoundsAreWithinPlan : Type 0
RoundsAreWithinPlan = (plan : Plan) (kinds : List (Option ℕ)) (before after : List RecordedLine) → excesses_by_lines plan kinds (before ++ after) ≡ []
    → (kind : ℕ) → kind < length plan.clients → IsWithinPlan (rounds_of plan kinds before kind)
