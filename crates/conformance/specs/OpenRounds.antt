-- The kinds of the open rounds.
use Rattle.std.specs.Prelude.{◌≡◌, ℕ, ◌==◌, if◌then◌else◌, List, Option, Some, None}
use Rattle.std.specs.Option.{option_and_then}
use Rattle.support.specs.Numbered.{value_at}
use Rattle.recordings.specs.declared.recording_line.RecordedActor.TheVariants.{Round}
use Rattle.recordings.specs.RecordingLine.{RecordedLine, RoundBegins, RoundEnds}
use Rattle.recordings.specs.PathsOfLines.{is_live}
use Rattle.job_bodies.specs.Plan.{Plan}
use Rattle.conformance.specs.RoundExcesses.{kind_of}
use Rattle.conformance.specs.declared.open_rounds.OpenRounds.{OpenRounds}
use Rattle.conformance.specs.declared.other_kinds.OtherKinds.{OtherKinds}
use Rattle.conformance.specs.OtherKinds.{kind_by}

-- The table has an entry for each open round, and no other entry. The entry is the kind of the round in the list `kinds`.
pub record AreOpen (kinds : List (Option ℕ)) (lines : List RecordedLine) (open_now : OpenRounds) : Type 0 where
  pub kept : (round : ℕ) → value_at open_now.kinds round ≡ (if is_live lines (Round round) then Some (kind_of kinds round) else None)

-- ---- one line
-- The table entry of round `one` after the removal of `round`. `there` is the entry before.
abbrev pub kept_without : ℕ → ℕ → Option (Option ℕ) → Option (Option ℕ)
kept_without round one there = if round == one then None else there

-- The table entry of round `one` after the line. `there` is the entry before.
abbrev pub entry_after_line : Plan → OtherKinds → RecordedLine → ℕ → Option (Option ℕ) → Option (Option ℕ)
entry_after_line plan others (RoundBegins round label) one there = if round == one then Some (kind_by plan others round label) else there
entry_after_line plan others (RoundEnds round) one there = kept_without round one there
entry_after_line plan others line one there = there

-- The kind of a round in the table. It is `None` if the table does not have the round, or if the round is not counted.
abbrev pub kind_in : OpenRounds → ℕ → Option ℕ
kind_in open_now round = option_and_then (λ (kind : Option ℕ). kind) (value_at open_now.kinds round)

-- The kind of the round that the line begins or ends. `open_now` is the table before the line.
abbrev pub kind_by_line : Plan → OtherKinds → OpenRounds → RecordedLine → Option ℕ
kind_by_line plan others open_now (RoundBegins round label) = kind_by plan others round label
kind_by_line plan others open_now (RoundEnds round) = kind_in open_now round
kind_by_line plan others open_now line = None
