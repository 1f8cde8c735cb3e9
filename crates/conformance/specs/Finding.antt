-- The line of a finding, and its sort key.
use Rattle.std.specs.Prelude.{ℕ, ◌+◌, ◌*◌, min, Option, Some, None}
use Rattle.conformance.specs.declared.pool_comparison.PoolDeviation.{PoolDeviation}
use Rattle.conformance.specs.declared.pool_comparison.PoolDeviation.TheVariants as pool
use Rattle.recordings.specs.declared.recording_line.RecordedActor.{RecordedActor}
use Rattle.recordings.specs.declared.recording_line.RecordedActor.TheVariants.{Job, Round}
use Rattle.conformance.specs.declared.difference.Difference.{Difference}
use Rattle.conformance.specs.declared.difference.Difference.TheVariants as difference
use Rattle.conformance.specs.declared.finding.Finding.{Finding}
use Rattle.conformance.specs.declared.finding.Finding.TheVariants as finding
use Rattle.conformance.specs.declared.unplanned.UnplannedLabel.{UnplannedLabel}
use Rattle.conformance.specs.declared.unplanned.UnplannedLabel.TheVariants as label

abbrev pub pool_line : PoolDeviation → Option ℕ
pool_line (pool.UnplannedLabel line name) = Some line
pool_line (pool.Differs line number difference) = Some line
pool_line (pool.NotRecorded number) = None

abbrev pub label_line : UnplannedLabel → Option ℕ
label_line (label.Class line class name) = Some line
label_line (label.Kind line kind) = Some line

-- The line number of a finding, if it has one.
abbrev pub line_of : Finding → Option ℕ
line_of (finding.Pool deviation) = pool_line deviation
line_of (finding.UnplannedLabel name) = label_line name
line_of (finding.PathMismatch line mismatch) = line
line_of (finding.NotDecided actor name) = None
line_of (finding.TooMany excess) = Some excess.line
line_of (finding.ForeignGet get name job) = Some get.line
line_of (finding.Invalidation invalidation name) = Some invalidation.line

-- The place of the findings that have no line: 2^64 - 1, which is above every line number.
abbrev pub last_place : ℕ
last_place = 18446744073709551615

abbrev pub place : Option ℕ → ℕ
place None = last_place
place (Some line) = line

-- The place of a finding in the order by lines. Findings without a line come last.
abbrev pub place_of : Finding → ℕ
place_of found = place (line_of found)

-- ---- the findings of one line
-- The rank of an undecided actor. Ranks order the findings of one line: pools, labels, path mismatches, undecided jobs,
-- undecided rounds, numbers of rounds, foreign gets, events.
abbrev pub undecided_rank : RecordedActor → ℕ
undecided_rank (Job job) = 3
undecided_rank (Round round) = 4

abbrev pub rank_of : Finding → ℕ
rank_of (finding.Pool deviation) = 0
rank_of (finding.UnplannedLabel name) = 1
rank_of (finding.PathMismatch line mismatch) = 2
rank_of (finding.NotDecided actor name) = undecided_rank actor
rank_of (finding.TooMany excess) = 5
rank_of (finding.ForeignGet get name job) = 6
rank_of (finding.Invalidation invalidation name) = 7

abbrev pub difference_number : Difference → ℕ
difference_number (difference.Core recorded planned) = 0
difference_number (difference.Max recorded planned) = 1
difference_number (difference.BoundedMax recorded) = 1
difference_number (difference.KindOfQueue kind) = 2
difference_number (difference.Capacity recorded planned) = 3
difference_number (difference.BoundedQueue recorded) = 3
difference_number difference.CoreTimeout = 4
difference_number difference.NoCoreTimeout = 4
difference_number (difference.Prestarted recorded planned) = 5

abbrev pub pool_number : PoolDeviation → ℕ
pool_number (pool.UnplannedLabel line name) = 0
pool_number (pool.Differs line number one) = difference_number one
pool_number (pool.NotRecorded number) = number

abbrev pub actor_number : RecordedActor → ℕ
actor_number (Job job) = job
actor_number (Round round) = round

-- The number that orders findings of the same line and rank. For a difference of a pool, it is the number of the setting. For
-- a missing pool, an undecided actor or a client kind with too many rounds, it is the number of the pool, actor or kind.
-- Otherwise it is 0.
abbrev pub number_of : Finding → ℕ
number_of (finding.Pool deviation) = pool_number deviation
number_of (finding.UnplannedLabel name) = 0
number_of (finding.PathMismatch line mismatch) = 0
number_of (finding.NotDecided actor name) = actor_number actor
number_of (finding.TooMany excess) = excess.kind
number_of (finding.ForeignGet get name job) = 0
number_of (finding.Invalidation invalidation name) = 0

-- The sort key of a finding. It orders findings by place, then by rank, and then by number. A number above 2^60 - 1 counts as
-- 2^60 - 1.
abbrev pub sort_key : Finding → ℕ
sort_key found = place_of found * 18446744073709551616 + rank_of found * 1152921504606846976 + min (number_of found) 1152921504606846975
