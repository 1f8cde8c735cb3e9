-- The ends of the lines of a recording.
use Rattle.std.specs.Prelude.{ℕ, Bool, false, ◌-◌, nat_eq, if◌then◌else◌, List, [], ◌∷◌, slice_get, codes, Option, Some, None}
use Rattle.std.specs.List.{ends_with}
use Rattle.recordings.specs.WholeLines.{whole_lines}

abbrev pub has_return_at_end : Option (List ℕ) → Bool
has_return_at_end None = false
has_return_at_end (Some line) = ends_with nat_eq line (13 ∷ [])

-- whether the recording has a line with this number, counted from 1, that ends with a carriage return
abbrev pub ends_with_return : List ℕ → ℕ → Bool
ends_with_return recording line = has_return_at_end (slice_get (whole_lines recording) (line - 1))

-- The end of the message about the malformed line with this number. It is a hint if the line ends with a carriage return, and
-- otherwise empty.
abbrev pub line_end_hint : List ℕ → ℕ → List ℕ
line_end_hint recording line = if ends_with_return recording line then codes "; it ends with a carriage return: convert the file from CRLF to newlines alone" else codes ""
