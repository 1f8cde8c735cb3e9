-- The lines of a text that may be cut off, parsed in order.
use Rattle.std.proofs.Common.{◌≡◌, inl, inr, ℕ, suc, ◌+◌, ◌-◌, ◌<◌, ◌≤◌, nat_lt, true, List, [], ◌∷◌, ◌++◌, length, take, drop, position, Option, Some, None, sym, ap, ap₂, ◌∙◌, arith}
use Rattle.std.specs.List.{slice_split}
use Rattle.std.proofs.lemmas.Bool.{cases_lt, cond-true, cond-false, lt-ltb, le-ltb, ltb-true, false_from_ne_true}
use Rattle.std.proofs.lemmas.List.{length-map, length-take}
use Rattle.std.proofs.lemmas.List.Splits.{slice_split_none, slice_split_first, length-slice_split}
use Rattle.std.proofs.lemmas.List.Sums.{fails_before_first, position_or_len_is, count_by-le-length}
use Rattle.std.proofs.lemmas.Option.{cond_some, none-some}
use Rattle.memchr.specs.Find.{IsFirstByte, is_byte}
use Rattle.support.specs.Pieces.{is_newline, first_line, after_line}
use Rattle.support.proofs.FirstPieces.{place, first_there, after_there}
use Rattle.support.proofs.Splits.{has_no, cut_first}
use Rattle.recordings.specs.WholeLines.{whole_lines}
use Rattle.recordings.specs.RecordingLine.{line_of, lines_read}

-- ---- the first newline
-- a search returns the index of the first newline
pub newline_found : (text : List ℕ) (found : Option ℕ) → IsFirstByte (is_byte 10) text found → position is_newline text ≡ found
newline_found text None none =
    let at_end : place 10 text ≡ length text = position_or_len_is is_newline text (length text) 0 (omega arith) (λ k below. false_from_ne_true _ (none k (omega arith) below)) (λ past. absurd (omega (arith, past))) in
    let past : length text ≤ place 10 text = omega (arith, at_end) in
    cond-false _ _ _ (le-ltb (place 10 text) (length text) past)
newline_found text (Some k) first =
    let here : place 10 text ≡ k = position_or_len_is is_newline text k 0 (omega (arith, first.0.high)) (λ j below. false_from_ne_true _ (first.0.before j (omega arith) below)) (λ within. first.1) in
    let within : place 10 text < length text = omega (arith, here, first.0.high) in
    cond-true _ _ _ (lt-ltb (place 10 text) (length text) within) ∙ ap (λ (n : ℕ). Some n) here

-- ---- complete lines
fronts_more : (first : List ℕ) (parts : List (List ℕ)) → 0 < length parts → take (length (first ∷ parts) - 1) (first ∷ parts) ≡ first ∷ take (length parts - 1) parts
fronts_more first parts some =
    let one_more : length (first ∷ parts) - 1 ≡ suc (length parts - 1) = omega arith in
    ap (λ n. take n (first ∷ parts)) one_more

some_parts : (text : List ℕ) → 0 < length (slice_split is_newline text)
some_parts text = omega (arith, length-slice_split is_newline text)

-- if the text has a newline, its first line is complete
pub whole_more : (text : List ℕ) (newline : ℕ) → position is_newline text ≡ Some newline → whole_lines text ≡ take newline text ∷ whole_lines (drop (newline + 1) text)
unfolding whole_lines
whole_more text newline found =
    let within : place 10 text < length text = ltb-true _ _ (cond_some (nat_lt (place 10 text) (length text)) _ newline found).0 in
    let split : slice_split is_newline text ≡ first_line text ∷ slice_split is_newline (after_line text) = slice_split_first is_newline text 0 within in
    ap (λ (parts : List (List ℕ)). take (length parts - 1) parts) split ∙ fronts_more (first_line text) (slice_split is_newline (after_line text)) (some_parts (after_line text))
    ∙ ap₂ (λ (line rest : List ℕ). line ∷ take (length (slice_split is_newline rest) - 1) (slice_split is_newline rest)) (sym (first_there text newline found)) (sym (after_there text newline found))

-- a text that begins with a line and its newline has this line as its first line
pub whole_first : (line rest : List ℕ) → has_no 10 line ≡ true → whole_lines (line ++ 10 ∷ rest) ≡ line ∷ whole_lines rest
unfolding whole_lines
whole_first line rest none =
    ap (λ (parts : List (List ℕ)). take (length parts - 1) parts) (cut_first 10 line rest none)
    ∙ fronts_more line (slice_split is_newline rest) (some_parts rest)

-- if the text has no newline, no line is complete
pub whole_none : (text : List ℕ) → position is_newline text ≡ None → whole_lines text ≡ []
unfolding whole_lines
whole_none text none =
    let past : length text ≤ place 10 text =
    elim (cases_lt (place 10 text) (length text)) [
      | inl within ↦ absurd (none-some (place 10 text) (sym none ∙ cond-true _ _ _ (lt-ltb _ _ within)))
      | inr past ↦ past
    ]
    in
    ap (λ (parts : List (List ℕ)). take (length parts - 1) parts) (slice_split_none is_newline text (λ k d inside. fails_before_first is_newline text k d (omega arith)))

-- a text has at most as many lines as bytes
pub lines_few : (text : List ℕ) → length (lines_read text) ≤ length text
unfolding whole_lines
lines_few text =
    let parts : List (List ℕ) = slice_split is_newline text in
    omega (arith, length-map (whole_lines text) line_of, length-take (length parts - 1) parts, length-slice_split is_newline text, count_by-le-length is_newline text)
