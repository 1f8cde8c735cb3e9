-- A number at the start of a text, followed by a space.
use Rattle.std.proofs.Common.{◌≡◌, ◌≢◌, ℕ, true, not, ◌==◌, ◌&&◌, nat_le, List, [], ◌∷◌, ◌++◌, length, take, drop, decimal, Option, Some, None, refl, sym, ap, ap₂, ◌∙◌, arith, take-append-drop, take_at, drop_at}
use Rattle.std.specs.Char.{is_ascii_digit}
use Rattle.std.specs.List.{list_all}
use Rattle.std.specs.Str.Parse.{digits_value}
use Rattle.std.proofs.lemmas.Bool.{and_parts}
use Rattle.std.proofs.lemmas.Option.{cond_some, none-some, same_Some}
use Rattle.support.specs.declared.line_number.TheConstants.{MAX_LINE_NUMBER}
use Rattle.support.specs.LineNumber.{has_leading_zero, is_whole_number, number_of, digit_count, leading_number, is_valid_number}
use Rattle.support.proofs.Numbers.{prefix_read}
use Rattle.support.proofs.WrittenNumbers.{number_read, number_written}
use Rattle.recordings.specs.Words.{parse_number}
use Rattle.recordings.proofs.WordByWord.{number_then_read, number_then_written}

-- ---- the text of a number
digits_are : (word : List ℕ) (n : ℕ) → number_of word ≡ Some n → list_all is_ascii_digit word ≡ true
unfolding number_of is_whole_number
digits_are word n read =
    let found = cond_some (is_whole_number word && nat_le (digits_value 10 word) MAX_LINE_NUMBER) _ _ read in
    let tests = and_parts (is_whole_number word) _ found.0 in
    (and_parts (not (length word == 0) && not (has_leading_zero word)) (list_all is_ascii_digit word) tests.0).1

count_of : (word rest : List ℕ) → list_all is_ascii_digit word ≡ true → digit_count (word ++ 32 ∷ rest) ≡ length word
count_of [] rest digits = refl
count_of (b ∷ word) rest digits =
    let parts = and_parts (is_ascii_digit b) (list_all is_ascii_digit word) digits in
    rw (parts.0, count_of word rest parts.1) (omega arith)

leading_written : (n : ℕ) (rest : List ℕ) → is_valid_number n ≡ true → leading_number (decimal n ++ 32 ∷ rest) ≡ Some (n, 32 ∷ rest)
unfolding leading_number
leading_written n rest valid =
    let word : List ℕ = decimal n in
    let text : List ℕ = word ++ 32 ∷ rest in
    let read : number_of word ≡ Some n = number_written n valid in
    let count : digit_count text ≡ length word = count_of word rest (digits_are word n read) in
    let front : take (digit_count text) text ≡ word = ap (λ i. take i text) count ∙ take_at word (32 ∷ rest) (length word) refl in
    let after : drop (digit_count text) text ≡ 32 ∷ rest = ap (λ i. drop i text) count ∙ drop_at word (32 ∷ rest) (length word) refl in
    rw (front, after, read) refl

-- ---- the number that begins a text
-- a number that is followed by a space parses
pub space_there : (text : List ℕ) (n : ℕ) (rest : List ℕ) → Some (n, 32 ∷ rest) ≡ leading_number text → Some (n, rest) ≡ parse_number text
space_there text n rest read =
    let found = prefix_read text n (32 ∷ rest) read in
    let number = number_read (take (digit_count text) text) n found.0 in
    let whole : text ≡ decimal n ++ 32 ∷ rest = sym (take-append-drop (digit_count text) text) ∙ ap₂ (λ (x y : List ℕ). x ++ y) number.1 found.1 in
    sym (ap parse_number whole ∙ number_then_written n rest number.0)

-- a text that does not begin with a number and a space does not parse
no_other : (text : List ℕ) → ((n : ℕ) (rest : List ℕ) → ¬ (leading_number text ≡ Some (n, 32 ∷ rest))) → None ≡ parse_number text
no_other text other = by_read (parse_number text) refl
  where
    by_read : (o : Option (ℕ × List ℕ)) → parse_number text ≡ o → None ≡ o
    by_read None e = refl
    by_read (Some read) e =
        let found = number_then_read text read e in
        absurd (other read.0 read.1 (ap leading_number found.1 ∙ leading_written read.0 read.1 found.0))

-- a text that does not begin with a number does not parse
pub number_none : (text : List ℕ) → None ≡ leading_number text → None ≡ parse_number text
number_none text none = no_other text (λ n rest e. none-some (n, 32 ∷ rest) (none ∙ e))

-- a number that is followed by another byte than a space does not parse
pub no_space : (text : List ℕ) (n : ℕ) (after : List ℕ) → Some (n, after) ≡ leading_number text → ((rest : List ℕ) → after ≢ 32 ∷ rest) → None ≡ parse_number text
no_space text n after read other = no_other text (λ m rest e. other rest (ap (λ (x : ℕ × List ℕ). x.1) (same_Some (n, after) (m, 32 ∷ rest) (read ∙ e))))
