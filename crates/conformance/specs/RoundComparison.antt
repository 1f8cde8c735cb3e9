-- The state of a comparison of rounds, as a function of the lines read.
use Rattle.std.specs.Prelude.{◌≡◌, ℕ, ◌+◌, ◌||◌, nat_lt, if◌then◌else◌, List, length, slice_get, is_some, Option, Some, None, []}
use Rattle.std.specs.Option.{option_map, option_to_list}
use Rattle.job_bodies.specs.Plan.{Plan}
use Rattle.recordings.specs.RecordingLine.{RecordedLine, RoundBegins, RoundEnds}
use Rattle.conformance.specs.declared.excess.Excess.{Excess}
use Rattle.conformance.specs.declared.round_comparison.RoundExcess.{RoundExcess}
use Rattle.conformance.specs.declared.round_comparison.KindRounds.{KindRounds}
use Rattle.conformance.specs.declared.round_comparison.RoundComparison.{RoundComparison}
use Rattle.conformance.specs.Rounds.{Rounds, excess_of}
use Rattle.conformance.specs.RoundExcesses.{is_kind, rounds_of, has_exceeded, excess_at}

abbrev pub kept_of : Plan → List (Option ℕ) → List RecordedLine → ℕ → KindRounds
kept_of plan kinds lines kind = record { rounds = rounds_of plan kinds lines kind; has_exceeded = has_exceeded plan kinds lines kind }

-- The comparison has read these lines. For each client kind, it has the counts of the rounds, and whether the kind ever had
-- more rounds than the plan allows.
pub record IsRoundComparisonOf (plan : Plan) (kinds : List (Option ℕ)) (comparison_state : RoundComparison) (lines : List RecordedLine) : Type 0 where
  pub kept : (kind : ℕ) → slice_get comparison_state.kinds.items kind ≡ (if nat_lt kind (length plan.clients) then Some (kept_of plan kinds lines kind) else None)

-- ---- the effect of a line on the rounds of one kind
-- The counts after one more round has begun.
abbrev pub with_begun : Rounds → Rounds
with_begun rounds = record rounds { begun = rounds.begun + 1 }

abbrev pub after_begin : KindRounds → KindRounds
after_begin kept = record { rounds = with_begun kept.rounds; has_exceeded = kept.has_exceeded || is_some (excess_of (with_begun kept.rounds)) }

abbrev pub reported_by_begin : KindRounds → Option Excess
reported_by_begin kept = if kept.has_exceeded then None else excess_of (with_begun kept.rounds)

abbrev pub reports_of_begin : ℕ → ℕ → KindRounds → List RoundExcess
reports_of_begin number kind kept = option_to_list (option_map (excess_at number kind) (reported_by_begin kept))

abbrev pub reports_of_kind : ℕ → ℕ → Option KindRounds → List RoundExcess
reports_of_kind number kind None = []
reports_of_kind number kind (Some kept) = reports_of_begin number kind kept

abbrev pub with_ended : Rounds → Rounds
with_ended rounds = record rounds { ended = rounds.ended + 1 }

-- The counts of a kind after the end of a round. They change only if a round is open.
abbrev pub after_end : KindRounds → KindRounds
after_end kept = record kept { rounds = if nat_lt kept.rounds.ended kept.rounds.begun then with_ended kept.rounds else kept.rounds }

-- ---- the effect and the result of a line whose round has this kind
-- The counts of client kind `kind` after the line. `given` is the kind of the round in the line, and `there` has the counts
-- before.
abbrev pub kind_after : Option ℕ → RecordedLine → ℕ → Option KindRounds → Option KindRounds
kind_after given (RoundBegins round name) kind there = if is_kind kind given then option_map after_begin there else there
kind_after given (RoundEnds round) kind there = if is_kind kind given then option_map after_end there else there
kind_after given line kind there = there

pub record CountsLine (given : Option ℕ) (old : RoundComparison) (line : RecordedLine) (new : RoundComparison) : Type 0 where
  pub later : (kind : ℕ) → slice_get new.kinds.items kind ≡ kind_after given line kind (slice_get old.kinds.items kind)

abbrev pub reports_at : RoundComparison → ℕ → Option ℕ → List RoundExcess
reports_at comparison_state number None = []
reports_at comparison_state number (Some kind) = reports_of_kind number kind (slice_get comparison_state.kinds.items kind)

abbrev pub reported_by_line : Option ℕ → RoundComparison → ℕ → RecordedLine → List RoundExcess
reported_by_line given comparison_state number (RoundBegins round name) = reports_at comparison_state number given
reported_by_line given comparison_state number line = []
