-- Proofs that `number_of` a text is a number exactly when the text is the decimal digits of this number.
use Rattle.std.proofs.Common.{◌≡◌, ℕ, zero, suc, ◌<◌, ◌^◌, true, false, not, ◌==◌, ◌&&◌, nat_lt, nat_le, List, [], ◌∷◌, length, slice_index, decimal, Some, refl, sym, ap, subst, ◌∙◌, arith, rules}
use Rattle.std.specs.Char.{is_ascii_digit}
use Rattle.std.specs.List.{list_all}
use Rattle.std.specs.Str.Parse.{digits_value}
use Rattle.std.proofs.lemmas.Bool.{and_parts, and_from, and_right, leb-true, not_from_false, ne_eqb, cond-true}
use Rattle.std.proofs.lemmas.Bool.Decides.{nat_tests}
use Rattle.std.proofs.lemmas.Option.{cond_some}
use Rattle.std.proofs.lemmas.Str.Parse.{IsNumeralModel, numerals_by_value}
use Rattle.std.proofs.lemmas.Fmt.{decimal_nonempty, first_decimal, digits_decimal, digits_value-decimal, decimal_digit, decimal-digits_value}
use Rattle.support.specs.declared.line_number.TheConstants.{MAX_LINE_NUMBER}
use Rattle.support.specs.LineNumber.{has_leading_zero, is_whole_number, number_of, is_valid_number}
use Rattle.support.proofs.Splits.{has_no}

digits_are : IsNumeralModel (λ digits. list_all is_ascii_digit digits ≡ true) (digits_value 10)
digits_are = numerals_by_value _ (search rules)

-- a text without a leading zero that begins with 0 has one byte
leading_alone : (text : List ℕ) → not (has_leading_zero text) ≡ true → 0 < length text → slice_index text 0 ≡ 48 → length text ≡ 1
leading_alone text none some leads = grind (arith, nat_tests)

-- if `number_of` returns a number, the number is within the limit, and the text is its decimal digits
pub number_read : (text : List ℕ) (n : ℕ) → number_of text ≡ Some n → (is_valid_number n ≡ true) × (text ≡ decimal n)
unfolding number_of is_whole_number
number_read text n read =
    let found = cond_some (is_whole_number text && nat_le (digits_value 10 text) MAX_LINE_NUMBER) _ _ read in
    let tests = and_parts (is_whole_number text) _ found.0 in
    let shape = and_parts (not (length text == 0) && not (has_leading_zero text)) (list_all is_ascii_digit text) tests.0 in
    let ends = and_parts (not (length text == 0)) (not (has_leading_zero text)) shape.0 in
    let some : 0 < length text = grind (arith, nat_tests) in
    let small : digits_value 10 text < 2 ^ 64 = omega (arith, leb-true _ _ tests.1) in
    let back : decimal (digits_value 10 text) ≡ text = decimal-digits_value digits_are text shape.1 some (leading_alone text ends.1 some) small in
    (subst (λ (m : ℕ). is_valid_number m ≡ true) found.1 tests.1, sym back ∙ ap decimal found.1)

-- the decimal digits of a number have no leading zero
leads_validly : (n : ℕ) → n < 2 ^ 64 → has_leading_zero (decimal n) ≡ false
leads_validly zero small = ap has_leading_zero (decimal_digit 0 (omega arith))
leads_validly (suc k) small =
    let first = first_decimal (suc k) (omega arith) small in
    let other : (slice_index (decimal (suc k)) 0 == 48) ≡ false = grind (arith, nat_tests) in
    and_right (nat_lt 1 (length (decimal (suc k)))) _ other

-- the decimal digits of a number within the limit are the text of that number
pub number_written : (n : ℕ) → is_valid_number n ≡ true → number_of (decimal n) ≡ Some n
unfolding number_of is_whole_number
number_written n valid =
    let small : n < 2 ^ 64 = omega (arith, leb-true _ _ valid) in
    let value : digits_value 10 (decimal n) ≡ n = digits_value-decimal digits_are n small in
    let filled : not (length (decimal n) == 0) ≡ true = not_from_false _ (ne_eqb _ 0 (λ e. omega (arith, decimal_nonempty n small))) in
    let leading : not (has_leading_zero (decimal n)) ≡ true = not_from_false _ (leads_validly n small) in
    let full : is_whole_number (decimal n) ≡ true = and_from _ _ (and_from _ _ filled leading) (digits_decimal digits_are n small) in
    let fits : nat_le (digits_value 10 (decimal n)) MAX_LINE_NUMBER ≡ true = subst (λ (m : ℕ). nat_le m MAX_LINE_NUMBER ≡ true) (sym value) valid in
    cond-true _ _ _ (and_from _ _ full fits) ∙ ap (λ (m : ℕ). Some m) value

-- a digit is not a byte below 48, such as a space or a newline
digit_is_not : (c b : ℕ) → c < 48 → is_ascii_digit b ≡ true → not (b == c) ≡ true
digit_is_not c b low digit = grind (arith, nat_tests)

digits_have_no : (c : ℕ) (digits : List ℕ) → c < 48 → list_all is_ascii_digit digits ≡ true → has_no c digits ≡ true
digits_have_no c [] low digits = refl
digits_have_no c (b ∷ bs) low digits =
    let parts = and_parts (is_ascii_digit b) _ digits in
    and_from _ _ (digit_is_not c b low parts.0) (digits_have_no c bs low parts.1)

-- the decimal digits of a number contain no byte below 48, such as a space or a newline
pub decimal_has_no : (c n : ℕ) → c < 48 → is_valid_number n ≡ true → has_no c (decimal n) ≡ true
decimal_has_no c n low valid = digits_have_no c (decimal n) low (digits_decimal digits_are n (omega (arith, leb-true _ _ valid)))
