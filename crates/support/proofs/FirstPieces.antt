-- Lemmas about the part of a text before the first byte with a given value, and the part after it.
use Rattle.std.proofs.Common.{◌≡◌, inl, inr, ℕ, suc, ◌+◌, ◌-◌, ◌<◌, ◌≤◌, true, false, not, ◌==◌, nat_lt, List, [], ◌∷◌, ◌++◌, length, take, drop, get_or, position, Some, None, refl, sym, ap, ap₂, subst, ◌∙◌, arith, append_assoc, length-append, get_or-append-add, take-append-drop, length-drop}
use Rattle.std.specs.List.{All, position_or_len, before_first, after_first}
use Rattle.std.proofs.Math.Seq.{take-append-add}
use Rattle.std.proofs.lemmas.Bool.{cases_lt, cases_Bool, and_parts, eqb-true, cond-true, cond-false, lt-ltb}
use Rattle.std.proofs.lemmas.List.{drop_all, take_all, length-take-le, get_or-take, nil_from_length}
use Rattle.std.proofs.lemmas.List.Sums.{split_at_first, passes_at_first, fails_before_first, prefix_len-le-length}
use Rattle.std.proofs.lemmas.List.Splits.{slice_split_none, slice_split_at}
use Rattle.std.proofs.lemmas.Option.{cond_some, none-some}
use Rattle.support.specs.Pieces.{is_newline, without_last_newline, lines_of, first_line, after_line}
use Rattle.support.proofs.Splits.{has_no, cut_at}
use Rattle.support.proofs.LastNewline.{lines_of_some, cut_off, stays}

-- the part of the text before its first byte c; the whole text if it has none
abbrev pub before : ℕ → List ℕ → List ℕ
before c text = before_first (λ b. b == c) text

abbrev pub rest_after : ℕ → List ℕ → List ℕ
rest_after c text = after_first (λ b. b == c) text

abbrev pub place : ℕ → List ℕ → ℕ
place c text = position_or_len (λ b. b == c) text

-- a text with a byte c is the part before the first one, that byte, and the part after it
pub cut_there : (c : ℕ) (text : List ℕ) → place c text < length text → text ≡ before c text ++ c ∷ rest_after c text
cut_there c text within =
    let here : get_or text (place c text) 0 ≡ c = eqb-true _ c (passes_at_first (λ b. b == c) text 0 within) in
    split_at_first (λ b. b == c) text 0 within ∙ ap (λ (b : ℕ). before c text ++ b ∷ rest_after c text) here

-- if a text has no byte c, `before` is the whole text and `rest_after` is empty
pub uncut : (c : ℕ) (text : List ℕ) → length text ≤ place c text → (text ≡ before c text) × (rest_after c text ≡ [])
uncut c text past = (sym (take_all (place c text) text past), drop_all (place c text + 1) text (omega arith))

pub no_more_before : (c : ℕ) (text : List ℕ) → place c text ≤ length text
no_more_before c text = prefix_len-le-length (λ b. not (b == c)) text

-- ---- the first line of a text
place_found : (text : List ℕ) (newline : ℕ) → position is_newline text ≡ Some newline → place 10 text ≡ newline
place_found text newline found = (cond_some (nat_lt (place 10 text) (length text)) _ newline found).1

none_found : (text : List ℕ) → position is_newline text ≡ None → length text ≤ place 10 text
none_found text none =
    elim (cases_lt (place 10 text) (length text)) [
      | inl within ↦ absurd (none-some (place 10 text) (sym none ∙ cond-true _ _ _ (lt-ltb _ _ within)))
      | inr past ↦ past
    ]

pub first_there : (text : List ℕ) (newline : ℕ) → position is_newline text ≡ Some newline → take newline text ≡ first_line text
first_there text newline found = ap (λ n. take n text) (sym (place_found text newline found))

pub after_there : (text : List ℕ) (newline : ℕ) → position is_newline text ≡ Some newline → drop (newline + 1) text ≡ after_line text
after_there text newline found = ap (λ n. drop (n + 1) text) (sym (place_found text newline found))

pub first_nowhere : (text : List ℕ) → position is_newline text ≡ None → text ≡ first_line text
first_nowhere text none = (uncut 10 text (none_found text none)).0

pub after_nowhere : (text : List ℕ) → position is_newline text ≡ None → [] ≡ after_line text
after_nowhere text none = sym (uncut 10 text (none_found text none)).1

-- if a prefix of a text has no newline, the first line of the text is the prefix followed by the first line of the rest
pub first_after : (prefix rest : List ℕ) → has_no 10 prefix ≡ true → (first_line (prefix ++ rest) ≡ prefix ++ first_line rest) × (after_line (prefix ++ rest) ≡ after_line rest)
first_after [] rest none = (refl, refl)
first_after (b ∷ prefix) rest none =
    let parts = and_parts (not (b == 10)) (has_no 10 prefix) none in
    let further = first_after prefix rest parts.1 in
    let one : place 10 (b ∷ (prefix ++ rest)) ≡ suc (place 10 (prefix ++ rest)) = cond-true _ _ _ parts.0 ∙ omega arith in
    let one_more : suc (place 10 (prefix ++ rest)) + 1 ≡ suc (place 10 (prefix ++ rest) + 1) = omega arith in (
      ap (λ n. take n (b ∷ (prefix ++ rest))) one ∙ ap (λ (t : List ℕ). b ∷ t) further.0,
      ap (λ n. drop (n + 1) (b ∷ (prefix ++ rest))) one ∙ ap (λ n. drop n (b ∷ (prefix ++ rest))) one_more ∙ further.1,
    )

-- a text is its first line followed by the rest of the text, which is empty or begins with a newline
pub first_and_more : (text : List ℕ) → text ≡ first_line text ++ drop (place 10 text) text
first_and_more text = sym (take-append-drop (place 10 text) text)

-- ---- the lines of a text
wln_after : (prefix rest : List ℕ) → 0 < length rest → without_last_newline (prefix ++ rest) ≡ prefix ++ without_last_newline rest
unfolding without_last_newline
wln_after prefix rest some =
    let long : length (prefix ++ rest) - 1 ≡ length prefix + (length rest - 1) = omega (arith, length-append prefix rest) in
    let last : get_or (prefix ++ rest) (length (prefix ++ rest) - 1) 0 ≡ get_or rest (length rest - 1) 0 = ap (λ i. get_or (prefix ++ rest) i 0) long ∙ get_or-append-add prefix rest (length rest - 1) 0 in
    elim (cases_Bool (get_or rest (length rest - 1) 0 == 10)) [
      | inl ended ↦
          cond-true _ _ _ (ap (λ b. b == 10) last ∙ ended) ∙ ap (λ n. take n (prefix ++ rest)) long ∙ take-append-add prefix rest (length rest - 1)
          ∙ sym (ap (λ (t : List ℕ). prefix ++ t) (cond-true _ _ _ ended))
      | inr other ↦ cond-false _ _ _ (ap (λ b. b == 10) last ∙ other) ∙ sym (ap (λ (t : List ℕ). prefix ++ t) (cond-false _ _ _ other))
    ]

pub no_lines : lines_of [] ≡ []
unfolding lines_of
no_lines = refl

-- the lines of a text that is not empty are its first line and the lines of the text after that line
pub lines_first : (text : List ℕ) → 0 < length text → lines_of text ≡ first_line text ∷ lines_of (after_line text)
lines_first text some =
    elim (cases_lt (place 10 text) (length text)) [
      | inl within ↦ newline_there (cut_there 10 text within) within
      | inr past ↦
          let whole = uncut 10 text past in
          let plain : All (λ b. (b == 10) ≡ false) text = λ k d inside. fails_before_first is_newline text k d (omega arith) in
          lines_of_some text some ∙ ap (cut_at 10) (stays text (plain (length text - 1) 0 (omega arith))) ∙ slice_split_none is_newline text plain
          ∙ ap₂ (λ (x : List ℕ) (xs : List (List ℕ)). x ∷ xs) whole.0 (sym (ap lines_of whole.1 ∙ no_lines))
    ]
  where
    newline_there : text ≡ first_line text ++ 10 ∷ after_line text → place 10 text < length text → lines_of text ≡ first_line text ∷ lines_of (after_line text)
    newline_there cut within =
        let prefix : List ℕ = first_line text in
        let rest : List ℕ = after_line text in
        let plain : All (λ b. (b == 10) ≡ false) prefix = λ k d inside. subst (λ (b : ℕ). (b == 10) ≡ false) (sym (get_or-take (place 10 text) text k d (omega (arith, length-take-le (place 10 text) text (no_more_before 10 text))))) (fails_before_first is_newline text k d (omega (arith, length-take-le (place 10 text) text (no_more_before 10 text)))) in
        elim (cases_lt 0 (length rest)) [
          | inl more ↦
              lines_of_some text some
              ∙ ap (λ (t : List ℕ). cut_at 10 (without_last_newline t)) (cut ∙ sym (append_assoc prefix (10 ∷ []) rest))
              ∙ ap (cut_at 10) (wln_after (prefix ++ 10 ∷ []) rest more ∙ append_assoc prefix (10 ∷ []) (without_last_newline rest))
              ∙ slice_split_at is_newline prefix 10 (without_last_newline rest) plain refl
              ∙ ap (λ (ls : List (List ℕ)). prefix ∷ ls) (sym (lines_of_some rest more))
          | inr none ↦
              let nothing : rest ≡ [] = nil_from_length rest (omega arith) in
              lines_of_some text some
              ∙ ap (λ (t : List ℕ). cut_at 10 (without_last_newline t)) (cut ∙ ap (λ (t : List ℕ). prefix ++ 10 ∷ t) nothing)
              ∙ ap (cut_at 10) (cut_off prefix)
              ∙ slice_split_none is_newline prefix plain
              ∙ ap (λ (ls : List (List ℕ)). prefix ∷ ls) (sym (ap lines_of nothing ∙ no_lines))
        ]

-- the text after the first line is shorter than the whole text
pub after_shorter : (text : List ℕ) → 0 < length text → length (after_line text) < length text
after_shorter text some = omega (arith, length-drop (place 10 text + 1) text)
