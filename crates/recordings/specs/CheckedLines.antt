-- An iterator over lines that checks each line against the lines before it.
use Rattle.std.specs.Prelude.{◌≡◌, ◌<◌, ◌≤◌, ◌+◌, ◌^◌, ℕ, List, [], ◌∷◌, ◌++◌, length, drop, slice_get, Option, Some, None, Result, Ok, Err}
use Rattle.std.specs.List.{filter_map}
use Rattle.recordings.specs.declared.recording_line.Line.{Line}
use Rattle.recordings.specs.RecordingLine.{RecordedLine, line_view}
use Rattle.recordings.specs.declared.fault.RecordingFault.{RecordingFault}
use Rattle.recordings.specs.declared.checked_lines.CheckedLines.{CheckedLines}
use Rattle.recordings.specs.Rules.{first_broken_rule}
use Rattle.recordings.specs.StateOfLines.{Represents}
use Rattle.recordings.specs.Faults.{lines_before, reason_at, IsFirstFault}

-- each line keeps the rules O1 to O7, given the lines before it
abbrev pub AreUnbroken : List RecordedLine → Type 0
AreUnbroken lines = (before : List RecordedLine) (line : RecordedLine) (after : List RecordedLine) → lines ≡ before ++ line ∷ after → first_broken_rule before line ≡ None

-- the number of remaining lines, valid or not
abbrev pub lines_left : CheckedLines → ℕ
lines_left checked = length checked.lines

-- the iterator has returned the first `number` lines, and none of them is bad
pub record IsCheckerState (all : List (Option RecordedLine)) (checked : CheckedLines) : Type 0 where
  pub few : length all < 2 ^ 64
  pub within : checked.number ≤ length all
  pub rest : checked.lines ≡ drop checked.number all
  pub represents : Represents checked.validator (lines_before all checked.number)
  pub counted : length (lines_before all checked.number) ≡ checked.number
  pub unbroken : AreUnbroken (lines_before all checked.number)
  pub good : (k : ℕ) → k < checked.number → reason_at all k ≡ None

-- ---- the next line
-- the iterator returns this line, which breaks no rule, as the next line
pub record IsAcceptedNext (all : List (Option RecordedLine)) (old : CheckedLines) (line : RecordedLine) (new : CheckedLines) : Type 0 where
  pub number : new.number ≡ old.number + 1
  pub there : slice_get all old.number ≡ Some (Some line)
  pub kept : first_broken_rule (lines_before all old.number) line ≡ None
  pub taken : lines_before all new.number ≡ lines_before all old.number ++ line ∷ []
  pub fewer : lines_left new < lines_left old
  pub checked : IsCheckerState all new

-- the iterator has returned all lines, and none of them is bad
pub record AreAllAccepted (all : List (Option RecordedLine)) (old new : CheckedLines) : Type 0 where
  pub none : IsFirstFault all None
  pub taken : lines_before all old.number ≡ filter_map (λ line. line) all
  pub checked : IsCheckerState all new

abbrev pub IsNext : List (Option RecordedLine) → CheckedLines → Option (Result Line RecordingFault) → CheckedLines → Type 0
IsNext all old None new = AreAllAccepted all old new
IsNext all old (Some (Ok line)) new = IsAcceptedNext all old (line_view line) new
IsNext all old (Some (Err fault)) new = IsFirstFault all (Some fault)
