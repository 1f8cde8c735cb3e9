-- The numbers in texts. A number has decimal digits without a leading zero, except the number 0, and is at most 1,000,000,000.
use Rattle.std.specs.Prelude.{ℕ, Bool, ◌==◌, ◌&&◌, not, nat_lt, nat_le, if◌then◌else◌, List, length, take, drop, slice_index, Option, Some, None, option_map}
use Rattle.std.specs.Char.{is_ascii_digit}
use Rattle.std.specs.List.{list_all, prefix_len}
use Rattle.std.specs.Str.Parse.{digits_value}
use Rattle.support.specs.Pieces.{first_line, after_line}
use Rattle.support.specs.declared.line_number.TheConstants.{MAX_LINE_NUMBER}

-- whether the number is at most the limit
abbrev pub is_valid_number : ℕ → Bool
is_valid_number n = nat_le n MAX_LINE_NUMBER

-- whether the text begins with a 0 and has at least one more byte
abbrev pub has_leading_zero : List ℕ → Bool
has_leading_zero text = nat_lt 1 (length text) && slice_index text 0 == 48

-- whether the text has only digits and at least one, without a leading zero
unfoldable pub is_whole_number : List ℕ → Bool
is_whole_number text = not (length text == 0) && not (has_leading_zero text) && list_all is_ascii_digit text

-- the number that the text spells; None if it spells no number
unfoldable pub number_of : List ℕ → Option ℕ
number_of text = if is_whole_number text && nat_le (digits_value 10 text) MAX_LINE_NUMBER then Some (digits_value 10 text) else None

-- the number of digits at the start of the text
abbrev pub digit_count : List ℕ → ℕ
digit_count text = prefix_len is_ascii_digit text

-- the number that the digits at the start of the text spell, and the text after these digits; None if the digits spell no number
unfoldable pub leading_number : List ℕ → Option (ℕ × List ℕ)
leading_number text = option_map (λ n. (n, drop (digit_count text) text)) (number_of (take (digit_count text) text))

-- the number that the first line of the text spells, and the text after this line; None if the line spells no number
abbrev pub split_number_line : List ℕ → Option (ℕ × List ℕ)
split_number_line text = option_map (λ n. (n, after_line text)) (number_of (first_line text))
