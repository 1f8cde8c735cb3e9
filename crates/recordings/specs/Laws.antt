-- The laws of recordings.
use Rattle.std.specs.Prelude.{◌≡◌, ◌↔◌, ℕ, IsTrue, List, Some}
use Rattle.recordings.specs.declared.pool_sizes.TheConstants.{UNBOUNDED_CAPACITY}
use Rattle.recordings.specs.RecordingLine.{RecordedLine, line_of}
use Rattle.recordings.specs.LineText.{line_text, is_valid_line}

-- a text parses as a line if and only if the line is valid and the text is the line's text
abbrev pub RecordingLinesAreCanonical : Type 0
RecordingLinesAreCanonical = (text : List ℕ) (line : RecordedLine) → line_of text ≡ Some line ↔ IsTrue (is_valid_line line) × text ≡ line_text line

-- the capacity in the `pool` line of an unbounded queue
abbrev pub UnboundedCapacityIsStated : Type 0
UnboundedCapacityIsStated = UNBOUNDED_CAPACITY ≡ 1000000000
