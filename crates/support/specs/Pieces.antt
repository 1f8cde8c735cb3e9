-- The lines of a text, and the words of a line.
use Rattle.std.specs.Prelude.{ℕ, Bool, ◌-◌, ◌+◌, ◌==◌, if◌then◌else◌, List, [], length, take, drop, position, slice_index, Option, option_map}
use Rattle.std.specs.List.{slice_split, before_first, after_first}

abbrev pub is_newline : ℕ → Bool
is_newline b = b == 10

abbrev pub is_space : ℕ → Bool
is_space b = b == 32

-- the text without its last byte if this byte is a newline; otherwise the text unchanged
unfoldable pub without_last_newline : List ℕ → List ℕ
without_last_newline text = if slice_index text (length text - 1) == 10 then take (length text - 1) text else text

-- the lines of a text, without their newlines. The last line can lack its newline. An empty text has no lines
unfoldable pub lines_of : List ℕ → List (List ℕ)
lines_of text = if length text == 0 then [] else slice_split is_newline (without_last_newline text)

-- the first line of a text, without its newline
abbrev pub first_line : List ℕ → List ℕ
first_line text = before_first is_newline text

-- the text after the first line and its newline
abbrev pub after_line : List ℕ → List ℕ
after_line text = after_first is_newline text

-- the parts of the text before and after its first space; None if it has no space
unfoldable pub split_space : List ℕ → Option (List ℕ × List ℕ)
split_space text = option_map (λ place. (take place text, drop (place + 1) text)) (position is_space text)

-- the words of a text: the parts between its spaces. Between two adjacent spaces there is an empty word
unfoldable pub words_of : List ℕ → List (List ℕ)
words_of text = slice_split is_space text
