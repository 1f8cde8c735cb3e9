-- Lemmas about the loop of `leading_number`, which parses the digits at the start of a text.
use Rattle.std.proofs.Common.{◌≡◌, ◌≢◌, inl, inr, ℕ, zero, suc, ◌+◌, ◌-◌, ◌*◌, ◌<◌, ◌≤◌, true, false, not, ◌==◌, ◌&&◌, List, [], ◌∷◌, length, get_or, take, drop, Some, None, refl, sym, ap, ◌∙◌, arith}
use Rattle.std.specs.Char.{is_ascii_digit, digit_value}
use Rattle.std.specs.List.{list_all}
use Rattle.std.specs.Str.Parse.{digits_value}
use Rattle.std.proofs.lemmas.Bool.{cases_lt, and_parts, and_from, eqb-true, true≢false, false_from_ne_true}
use Rattle.std.proofs.lemmas.Bool.Decides.{nat_tests}
use Rattle.std.proofs.lemmas.List.{take_all, drop_all, drop-drop, get_or-take, get_or-drop, take-take, length-drop, length-take-le, nil_from_length}
use Rattle.std.proofs.lemmas.List.Folds.{list_all_more}
use Rattle.std.proofs.lemmas.List.Sums.{prefix_len_passes, prefix_len_stops, prefix_len-le-length, passes_at_first, fails_before_first}
use Rattle.std.proofs.lemmas.Int.Digits.{digits_value_more}
use Rattle.std.proofs.lemmas.Str.Parse.{digits_value-take-le}
use Rattle.support.specs.declared.line_number.TheConstants.{MAX_LINE_NUMBER}
use Rattle.support.specs.Pieces.{is_newline, first_line, after_line}
use Rattle.support.specs.LineNumber.{has_leading_zero, is_whole_number, number_of, digit_count, leading_number, split_number_line}
use Rattle.support.proofs.FirstPieces.{place, no_more_before}
use Rattle.support.proofs.Partial.{map_some, map_none}

digit_of_all : (xs : List ℕ) (i : ℕ) → list_all is_ascii_digit xs ≡ true → i < length xs → is_ascii_digit (get_or xs i 0) ≡ true
digit_of_all [] i all inside = absurd (omega arith)
digit_of_all (x ∷ xs) zero all inside = (and_parts (is_ascii_digit x) _ all).0
digit_of_all (x ∷ xs) (suc i) all inside = digit_of_all xs i (and_parts (is_ascii_digit x) _ all).1 (omega arith)

pub not_zero : (n : ℕ) → (n == 0) ≡ false → 0 < n
not_zero n other = grind (arith, nat_tests)

-- ---- the loop of `leading_number`
-- after one more digit was read, the value is that of all digits read so far
pub digits_more : (text : List ℕ) (i value : ℕ) → is_ascii_digit (get_or text i 0) ≡ true → i < length text → value ≡ digits_value 10 (take i text)
    → value * 10 + (get_or text i 0 - 48) ≡ digits_value 10 (take (i + 1) text)
digits_more text i value digit inside e =
    let same : digit_value (get_or text i 0) ≡ get_or text i 0 - 48 = grind (arith, nat_tests) in
    let more = digits_value_more 10 text i inside in
    cc

pub more_digits : (text : List ℕ) (i : ℕ) → i < length text → list_all is_ascii_digit (take i text) ≡ true → is_ascii_digit (get_or text i 0) ≡ true → list_all is_ascii_digit (take (i + 1) text) ≡ true
more_digits text i inside digits digit = list_all_more is_ascii_digit text i 0 inside ∙ and_from _ _ digits digit

-- if the first i bytes are digits, `digit_count` is at least i
pub counted_to : (text : List ℕ) (i : ℕ) → i ≤ length text → list_all is_ascii_digit (take i text) ≡ true → i ≤ digit_count text
counted_to text zero inside digits = omega arith
counted_to [] (suc i) inside digits = absurd (omega arith)
counted_to (b ∷ text) (suc i) inside digits =
    let parts = and_parts (is_ascii_digit b) (list_all is_ascii_digit (take i text)) digits in
    rw parts.0 (omega (arith, counted_to text i (omega arith) parts.1))

-- if the first i bytes are digits and the next byte is not, `digit_count` is i
pub counted : (text : List ℕ) (i : ℕ) → i ≤ length text → list_all is_ascii_digit (take i text) ≡ true → (i < length text → is_ascii_digit (get_or text i 0) ≡ false) → digit_count text ≡ i
counted text i inside digits stops =
    let least = counted_to text i inside digits in
    elim (cases_lt i (digit_count text)) [
      | inl more ↦
          let within : i < length text = omega (arith, prefix_len-le-length is_ascii_digit text) in
          absurd (true≢false (sym (prefix_len_passes is_ascii_digit text i 0 more) ∙ stops within))
      | inr all ↦ omega arith
    ]

-- if the value of a prefix of the digits is above the limit, the text is not that of a number
past_limit : (text : List ℕ) (i value : ℕ) → value ≡ digits_value 10 (take i text) → MAX_LINE_NUMBER < value → number_of text ≡ None
unfolding number_of
past_limit text i value e past =
    let le = digits_value-take-le 10 text i (omega arith) in
    grind (arith, nat_tests)

pub none_past : (text : List ℕ) (i value : ℕ) → i ≤ length text → list_all is_ascii_digit (take i text) ≡ true → value ≡ digits_value 10 (take i text) → MAX_LINE_NUMBER < value → None ≡ leading_number text
unfolding leading_number
none_past text i value inside digits e past =
    let n : ℕ = digit_count text in
    let prefix : take i (take n text) ≡ take i text = take-take i n text (counted_to text i inside digits) in
    rw (past_limit (take n text) i value (e ∙ ap (digits_value 10) (sym prefix)) past) refl

-- if a text has no digits at the start, or these have a leading zero, it does not begin with a number
pub none_begun : (text : List ℕ) (i : ℕ) → digit_count text ≡ i → (not (length (take i text) == 0) && not (has_leading_zero (take i text))) ≡ false → None ≡ leading_number text
unfolding leading_number number_of is_whole_number
none_begun text i all begins = rw (all, begins) refl

-- if the digits at the start are valid and their value is within the limit, the text begins with that number
pub some_read : (text : List ℕ) (i value : ℕ) → digit_count text ≡ i → list_all is_ascii_digit (take i text) ≡ true → (not (length (take i text) == 0) && not (has_leading_zero (take i text))) ≡ true
    → value ≡ digits_value 10 (take i text) → value ≤ MAX_LINE_NUMBER → Some (value, drop i text) ≡ leading_number text
unfolding leading_number number_of is_whole_number
some_read text i value all digits begins e within = rw (all, begins, digits, ← e) (grind (arith, nat_tests))

-- ---- a whole text
-- a text with a byte that is not a digit is not the text of a number
no_number : (text : List ℕ) (i : ℕ) → i < length text → is_ascii_digit (get_or text i 0) ≡ false → number_of text ≡ None
unfolding number_of is_whole_number
no_number text i inside other =
    let some_other : list_all is_ascii_digit text ≡ false = false_from_ne_true _ (λ all. true≢false (sym (digit_of_all text i all inside) ∙ other)) in
    grind (arith, nat_tests)

stops_at_count : (text : List ℕ) → digit_count text < length text → is_ascii_digit (get_or text (digit_count text) 0) ≡ false
stops_at_count text within = prefix_len_stops is_ascii_digit text 0 within

-- the number at the start of a text is the value of the digits there, and the rest is the text after these digits
pub prefix_read : (text : List ℕ) (n : ℕ) (rest : List ℕ) → Some (n, rest) ≡ leading_number text → (number_of (take (digit_count text) text) ≡ Some n) × (drop (digit_count text) text ≡ rest)
unfolding leading_number
prefix_read text n rest read =
    let found = map_some (λ n. (n, drop (digit_count text) text)) (number_of (take (digit_count text) text)) (n, rest) (sym read) in
    let same : found.0 ≡ n = ap (λ (x : ℕ × List ℕ). x.0) found.2 in
    (found.1 ∙ ap (λ (m : ℕ). Some m) same, ap (λ (x : ℕ × List ℕ). x.1) found.2)

pub prefix_none : (text : List ℕ) → None ≡ leading_number text → number_of (take (digit_count text) text) ≡ None
unfolding leading_number
prefix_none text read = map_none (λ n. (n, drop (digit_count text) text)) (number_of (take (digit_count text) text)) read

pub whole_read : (text : List ℕ) (n : ℕ) (rest : List ℕ) → Some (n, rest) ≡ leading_number text → length rest ≡ 0 → Some n ≡ number_of text
whole_read text n rest read none =
    let found = prefix_read text n rest read in
    let all : length text ≤ digit_count text = omega (arith, length-drop (digit_count text) text, ap (λ (t : List ℕ). length t) found.1) in
    sym (ap number_of (sym (take_all (digit_count text) text all)) ∙ found.0)

pub whole_none : (text : List ℕ) → None ≡ leading_number text → None ≡ number_of text
whole_none text read =
    elim (cases_lt (digit_count text) (length text)) [
      | inl within ↦ sym (no_number text (digit_count text) within (stops_at_count text within))
      | inr all ↦ sym (ap number_of (sym (take_all (digit_count text) text all)) ∙ prefix_none text read)
    ]

pub whole_more : (text : List ℕ) (n : ℕ) (rest : List ℕ) → Some (n, rest) ≡ leading_number text → 0 < length rest → None ≡ number_of text
whole_more text n rest read more =
    let found = prefix_read text n rest read in
    let within : digit_count text < length text = omega (arith, length-drop (digit_count text) text, ap (λ (t : List ℕ). length t) found.1) in
    sym (no_number text (digit_count text) within (stops_at_count text within))

-- ---- the first line of a text
no_newline : (b : ℕ) → is_ascii_digit b ≡ true → (b == 10) ≡ false
no_newline b digit = grind (arith, nat_tests)

no_digit : (b : ℕ) → (b == 10) ≡ true → is_ascii_digit b ≡ false
no_digit b newline = grind (arith, nat_tests)

-- the digits at the start of a text have no newline, so they end at or before the end of the first line
digits_in_line : (text : List ℕ) → digit_count text ≤ place 10 text
digits_in_line text =
    elim (cases_lt (place 10 text) (digit_count text)) [
      | inl less ↦
          let within : place 10 text < length text = omega (arith, prefix_len-le-length is_ascii_digit text) in
          absurd (true≢false (sym (passes_at_first is_newline text 0 within) ∙ no_newline _ (prefix_len_passes is_ascii_digit text (place 10 text) 0 less)))
      | inr more ↦ more
    ]

-- a first line that continues after its digits is not the text of a number
line_continues : (text : List ℕ) → digit_count text < place 10 text → number_of (first_line text) ≡ None
line_continues text less =
    let inside : place 10 text ≤ length text = no_more_before 10 text in
    let same : get_or (first_line text) (digit_count text) 0 ≡ get_or text (digit_count text) 0 = get_or-take (place 10 text) text (digit_count text) 0 less in
    no_number (first_line text) (digit_count text) (omega (arith, length-take-le (place 10 text) text inside)) (ap is_ascii_digit same ∙ stops_at_count text (omega arith))

-- if the number at the start of a text ends with the first line, it is the number of that line
line_ends : (text : List ℕ) (n : ℕ) (rest : List ℕ) → Some (n, rest) ≡ leading_number text → place 10 text ≡ digit_count text → number_of (first_line text) ≡ Some n
line_ends text n rest read ends = ap (λ i. number_of (take i text)) ends ∙ (prefix_read text n rest read).0

split_some : (text : List ℕ) (n : ℕ) (rest : List ℕ) → number_of (first_line text) ≡ Some n → rest ≡ after_line text → Some (n, rest) ≡ split_number_line text
split_some text n rest number is = rw (number, is) refl

split_none : (text : List ℕ) → number_of (first_line text) ≡ None → None ≡ split_number_line text
split_none text none = rw none refl

pub line_none : (text : List ℕ) → None ≡ leading_number text → None ≡ split_number_line text
line_none text read =
    elim (cases_lt (digit_count text) (place 10 text)) [
      | inl less ↦ split_none text (line_continues text less)
      | inr more ↦
          let ends : place 10 text ≡ digit_count text = omega (arith, digits_in_line text) in
          split_none text (ap (λ i. number_of (take i text)) ends ∙ prefix_none text read)
    ]

-- if the number at the start of a text is the whole text, it is the number of the first line
pub line_last : (text : List ℕ) (n : ℕ) (rest : List ℕ) → Some (n, rest) ≡ leading_number text → length rest ≡ 0 → Some (n, rest) ≡ split_number_line text
line_last text n rest read none =
    let found = prefix_read text n rest read in
    let all : length text ≤ digit_count text = omega (arith, length-drop (digit_count text) text, ap (λ (t : List ℕ). length t) found.1) in
    let ends : place 10 text ≡ digit_count text = omega (arith, digits_in_line text, no_more_before 10 text) in
    split_some text n rest (line_ends text n rest read ends) (nil_from_length rest none ∙ sym (drop_all (place 10 text + 1) text (omega arith)))

-- the byte of a text after its digits is the first byte of the rest
at_rest : (text : List ℕ) (n : ℕ) (rest : List ℕ) → Some (n, rest) ≡ leading_number text → get_or text (digit_count text) 0 ≡ get_or rest 0 0
at_rest text n rest read =
    let found = prefix_read text n rest read in
    ap (λ i. get_or text i 0) (omega arith) ∙ sym (get_or-drop (digit_count text) text 0 0) ∙ ap (λ (t : List ℕ). get_or t 0 0) found.1

-- if the number at the start of a text is followed by a newline, it is the number of the first line
pub line_newline : (text : List ℕ) (n : ℕ) (rest : List ℕ) → Some (n, 10 ∷ rest) ≡ leading_number text → Some (n, rest) ≡ split_number_line text
line_newline text n rest read =
    let found = prefix_read text n (10 ∷ rest) read in
    let here : get_or text (digit_count text) 0 ≡ 10 = at_rest text n (10 ∷ rest) read in
    let ends : place 10 text ≡ digit_count text =
    elim (cases_lt (digit_count text) (place 10 text)) [
      | inl less ↦ absurd (true≢false (sym (ap (λ b. b == 10) here) ∙ fails_before_first is_newline text (digit_count text) 0 less))
      | inr more ↦ omega (arith, digits_in_line text)
    ]
    in
    split_some text n rest (line_ends text n (10 ∷ rest) read ends)
    (sym (ap (λ i. drop (i + 1) text) ends ∙ sym (drop-drop 1 (digit_count text) text) ∙ ap (drop 1) found.1))

begins_with : (rest : List ℕ) → 0 < length rest → get_or rest 0 0 ≡ 10 → rest ≡ 10 ∷ drop 1 rest
begins_with [] more newline = absurd (omega arith)
begins_with (b ∷ rest) more newline = ap (λ (x : ℕ). x ∷ rest) newline

-- if the number at the start of a text is followed by a byte other than a newline, the first line is not the text of a number
pub line_more : (text : List ℕ) (n : ℕ) (rest : List ℕ) → Some (n, rest) ≡ leading_number text → 0 < length rest → ((rest_after : List ℕ) → rest ≢ 10 ∷ rest_after) → None ≡ split_number_line text
line_more text n rest read more other =
    let found = prefix_read text n rest read in
    let within : digit_count text < length text = omega (arith, length-drop (digit_count text) text, ap (λ (t : List ℕ). length t) found.1) in
    elim (cases_lt (digit_count text) (place 10 text)) [
      | inl less ↦ split_none text (line_continues text less)
      | inr most ↦
          let ends : place 10 text ≡ digit_count text = omega (arith, digits_in_line text) in
          let newline : get_or rest 0 0 ≡ 10 = sym (at_rest text n rest read) ∙ ap (λ i. get_or text i 0) (sym ends) ∙ eqb-true _ 10 (passes_at_first is_newline text 0 (omega arith)) in
          absurd (other (drop 1 rest) (begins_with rest more newline))
    ]
