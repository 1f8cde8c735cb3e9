-- The well-formed lines of a recording.
use Rattle.std.specs.Prelude.{ℕ, List, Option}
use Rattle.std.specs.List.{filter_map}
use Rattle.recordings.specs.RecordingLine.{RecordedLine, lines_read}

-- The lines without the malformed ones, which are `None`.
abbrev pub with_form : List (Option RecordedLine) → List RecordedLine
with_form lines = filter_map (λ line. line) lines

-- The well-formed lines of a text. If no line is invalid, these are all lines.
abbrev pub lines_of : List ℕ → List RecordedLine
lines_of text = with_form (lines_read text)
