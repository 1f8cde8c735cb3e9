-- The position at the end of a text, as a line and a column, both counted from 1.
use Rattle.std.specs.Prelude.{◌≡◌, ℕ, ◌+◌, ◌==◌, ◌/◌, not, Bool, List, count_by, drop}
use Rattle.std.specs.List.{IsAfterLastMatch}
use Rattle.plan_text.specs.declared.place.TextPlace.{TextPlace}

abbrev pub is_newline : ℕ → Bool
is_newline byte = byte == 10

-- whether the byte begins a character in UTF-8; a byte from 128 to 191 continues a character
abbrev pub begins_character : ℕ → Bool
begins_character byte = not (byte / 64 == 2)

-- `place` is the position at the end of the text. Its line is 1 plus the number of newlines. Its column is 1 plus the number of
-- characters after the last newline.
pub record IsPositionAfter (text : List ℕ) (place : TextPlace) : Type 0 where
  pub line : place.line ≡ 1 + count_by is_newline text
  pub column : (start : ℕ) × IsAfterLastMatch is_newline text start × (place.column ≡ 1 + count_by begins_character (drop start text))
