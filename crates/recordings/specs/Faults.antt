-- The first bad line of a recording, and the reason why it is bad.
use Rattle.std.specs.Prelude.{◌≡◌, ℕ, ◌+◌, ◌<◌, List, [], ◌∷◌, take, slice_get, Option, Some, None}
use Rattle.std.specs.List.{filter_map}
use Rattle.std.specs.Option.{option_map, option_and_then}
use Rattle.recordings.specs.RecordingLine.{RecordedLine}
use Rattle.recordings.specs.declared.fault.FaultReason.{FaultReason}
use Rattle.recordings.specs.declared.fault.FaultReason.TheVariants as reason
use Rattle.recordings.specs.declared.fault.RecordingFault.{RecordingFault}
use Rattle.recordings.specs.declared.rule.LineRule.TheVariants as rule
use Rattle.recordings.specs.Rules.{first_broken_rule}

-- the reason why a line is bad, or None if it is not; the line itself is None if it has none of the forms
abbrev pub reason_for : List RecordedLine → Option RecordedLine → Option FaultReason
reason_for before None = Some reason.Form
reason_for before (Some line) = option_map reason.LineRule (first_broken_rule before line)

-- the well-formed lines among the first i lines
abbrev pub lines_before : List (Option RecordedLine) → ℕ → List RecordedLine
lines_before lines i = filter_map (λ line. line) (take i lines)

-- the reason why the line at index i is bad; None if it is not bad or does not exist; a text without lines breaks O1
unfoldable pub reason_at : List (Option RecordedLine) → ℕ → Option FaultReason
reason_at [] i = Some (reason.LineRule rule.Frame)
reason_at (line ∷ lines) i = option_and_then (reason_for (lines_before (line ∷ lines) i)) (slice_get (line ∷ lines) i)

-- the fault is that of the first bad line, and lines are numbered from 1; the fault is None if no line is bad
abbrev pub IsFirstFault : List (Option RecordedLine) → Option RecordingFault → Type 0
IsFirstFault lines None = (i : ℕ) → reason_at lines i ≡ None
IsFirstFault lines (Some fault) = (i : ℕ) × (fault.line ≡ i + 1) × (reason_at lines i ≡ Some fault.reason) × ((k : ℕ) → k < i → reason_at lines k ≡ None)
