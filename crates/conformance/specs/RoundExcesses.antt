-- The client kinds with more rounds than the plan allows, line by line.
use Rattle.std.specs.Prelude.{ℕ, ◌+◌, ◌==◌, ◌&&◌, nat_lt, Bool, false, if◌then◌else◌, List, [], ◌∷◌, ◌++◌, length, slice_get, count_by, is_some, Option, Some, None}
use Rattle.std.specs.List.{list_any, flat_map}
use Rattle.std.specs.Option.{option_map, option_and_then, option_to_list}
use Rattle.job_bodies.specs.Plan.{Plan, client_at}
use Rattle.recordings.specs.RecordingLine.{RecordedLine, RoundBegins, RoundEnds}
use Rattle.recordings.specs.LineSteps.{with_lines_before}
use Rattle.conformance.specs.declared.excess.Excess.{Excess}
use Rattle.conformance.specs.declared.round_comparison.RoundExcess.{RoundExcess}
use Rattle.conformance.specs.Rounds.{Rounds, excess_of}

-- ---- the kinds of rounds
-- The client kind that the list gives to the round with this number, or `None` if it gives none.
abbrev pub kind_of : List (Option ℕ) → ℕ → Option ℕ
kind_of kinds round = option_and_then (λ kind. kind) (slice_get kinds round)

-- The kind of the round that the line begins or ends.
abbrev pub kind_at : List (Option ℕ) → RecordedLine → Option ℕ
kind_at kinds (RoundBegins round name) = kind_of kinds round
kind_at kinds (RoundEnds round) = kind_of kinds round
kind_at kinds line = None

abbrev pub is_kind : ℕ → Option ℕ → Bool
is_kind kind None = false
is_kind kind (Some one) = one == kind

abbrev pub begins_kind : List (Option ℕ) → ℕ → RecordedLine → Bool
begins_kind kinds kind (RoundBegins round name) = is_kind kind (kind_of kinds round)
begins_kind kinds kind line = false

abbrev pub ends_kind : List (Option ℕ) → ℕ → RecordedLine → Bool
ends_kind kinds kind (RoundEnds round) = is_kind kind (kind_of kinds round)
ends_kind kinds kind line = false

-- The counts of the rounds of this client kind in the lines, with the limits of the plan.
unfoldable pub rounds_of : Plan → List (Option ℕ) → List RecordedLine → ℕ → Rounds
rounds_of plan kinds lines kind = record {
  count = (client_at plan kind).count;
  repeat = (client_at plan kind).repeat;
  begun = count_by (begins_kind kinds kind) lines;
  ended = count_by (ends_kind kinds kind) lines;
}

-- ---- one line
-- A round of the client kind begins with this line, and the kind then has more rounds than the plan allows.
abbrev pub exceeds : Plan → List (Option ℕ) → ℕ → List RecordedLine → RecordedLine → Bool
exceeds plan kinds kind before line = begins_kind kinds kind line && is_some (excess_of (rounds_of plan kinds (before ++ line ∷ []) kind))

unfoldable pub has_exceeded : Plan → List (Option ℕ) → List RecordedLine → ℕ → Bool
has_exceeded plan kinds lines kind = list_any (λ (before, line). exceeds plan kinds kind before line) (with_lines_before lines)

-- The excess of the client kind after this line. It is `None` if an earlier line already had an excess of the kind.
abbrev pub first_excess : Plan → List (Option ℕ) → List RecordedLine → RecordedLine → ℕ → Option Excess
first_excess plan kinds before line kind = if has_exceeded plan kinds before kind then None else excess_of (rounds_of plan kinds (before ++ line ∷ []) kind)

abbrev pub excess_at : ℕ → ℕ → Excess → RoundExcess
excess_at number kind excess = record { line = number; kind = kind; excess = excess }

-- The excess to report for this line and this client kind. The list is empty if there is no excess, or if the plan has no
-- such kind.
abbrev pub excesses_of_kind : Plan → List (Option ℕ) → List RecordedLine → ℕ → RecordedLine → Option ℕ → List RoundExcess
excesses_of_kind plan kinds before number line None = []
excesses_of_kind plan kinds before number line (Some kind) =
    if nat_lt kind (length plan.clients) then option_to_list (option_map (excess_at number kind) (first_excess plan kinds before line kind)) else []

abbrev pub excesses_by_line : Plan → List (Option ℕ) → List RecordedLine → ℕ → RecordedLine → List RoundExcess
excesses_by_line plan kinds before number (RoundBegins round name) = excesses_of_kind plan kinds before number (RoundBegins round name) (kind_of kinds round)
excesses_by_line plan kinds before number line = []

-- ---- all lines
-- For each client kind with too many rounds, the first line at which this is so. Lines are numbered from 1.
unfoldable pub excesses_by_lines : Plan → List (Option ℕ) → List RecordedLine → List RoundExcess
excesses_by_lines plan kinds lines = flat_map (λ (before, line). excesses_by_line plan kinds before (length before + 1) line) (with_lines_before lines)
