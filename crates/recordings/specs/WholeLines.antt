-- The lines of a text that may be cut off.
use Rattle.std.specs.Prelude.{ℕ, ◌-◌, List, length, take}
use Rattle.std.specs.List.{slice_split}
use Rattle.support.specs.Pieces.{is_newline}

-- the lines of a text without their newlines; the text after the last newline is ignored
unfoldable pub whole_lines : List ℕ → List (List ℕ)
whole_lines text = let parts = slice_split is_newline text in take (length parts - 1) parts
