-- The split found by looking at lines from the beginning of an input is the split at its first line `%%`.
use Rattle.std.proofs.Common.{◌≡◌, ◌==◌, ℕ, suc, ◌+◌, ◌-◌, ◌<◌, ◌≤◌, true, false, List, [], ◌∷◌, ◌++◌, length, take, drop, slice_index, Option, Some, None, refl, sym, ap, ap₂, subst, ◌∙◌, arith, append_assoc, take-append-drop, length-append, length-take-le}
use Rattle.std.specs.List.{All}
use Rattle.memchr.specs.Find.{IsFirstByte, is_byte}
use Rattle.std.proofs.Math.Seq.{drop-cons}
use Rattle.std.proofs.lemmas.Bool.{eqb-true, false_from_ne_true}
use Rattle.std.proofs.lemmas.List.{get_or_default, take-append-le, take_all, get_or-take}
use Rattle.std.proofs.lemmas.List.Elements.{All-head, All-tail}
use Rattle.std.proofs.lemmas.Option.{none-some}
use Rattle.sizing_cli.specs.Bundle.{Bundle, bundle_here, with_byte, here_or, first_from, first_bundle_of, after_separator}

-- the split of a text, if these bytes come before it
abbrev pub behind : List ℕ → Option Bundle → Option Bundle
behind [] split = split
behind (b ∷ front) split = with_byte b (behind front split)

-- the rest of the input begins with a line, and no earlier line is `%%`
pub record IsReadTo (input rest : List ℕ) : Type 0 where
  pub front : List ℕ
  pub whole : input ≡ front ++ rest
  pub split : first_from true input ≡ behind front (first_from true rest)

abbrev EndsNoLine : ℕ → Type 0
EndsNoLine b = (b == 10) ≡ false

behind_more : (front more : List ℕ) (split : Option Bundle) → behind (front ++ more) split ≡ behind front (behind more split)
behind_more [] more split = refl
behind_more (b ∷ front) more split = ap (with_byte b) (behind_more front more split)

behind_found : (front second : List ℕ) → behind front (Some (record { plan = []; second = second })) ≡ Some (record { plan = front; second = second })
behind_found [] second = refl
behind_found (b ∷ front) second = ap (with_byte b) (behind_found front second)

behind_none : (front : List ℕ) → behind front None ≡ None
behind_none [] = refl
behind_none (b ∷ front) = ap (with_byte b) (behind_none front)

-- ---- one line
over_line : (line more : List ℕ) → All EndsNoLine line → first_from false (line ++ 10 ∷ more) ≡ behind (line ++ 10 ∷ []) (first_from true more)
over_line [] more unbroken = refl
over_line (b ∷ line) more unbroken =
    ap (λ flag. with_byte b (first_from flag (line ++ 10 ∷ more))) (All-head EndsNoLine b line unbroken)
    ∙ ap (with_byte b) (over_line line more (All-tail EndsNoLine b line unbroken))

-- the next line is not `%%`
next_line : (line more : List ℕ) → All EndsNoLine line → after_separator (line ++ 10 ∷ more) ≡ None → first_from true (line ++ 10 ∷ more) ≡ behind (line ++ 10 ∷ []) (first_from true more)
next_line [] more unbroken none = ap (λ here. here_or 10 (bundle_here here) (first_from true more)) none
next_line (b ∷ line) more unbroken none =
    ap (λ here. here_or b (bundle_here here) (first_from (b == 10) (line ++ 10 ∷ more))) none
    ∙ ap (λ flag. with_byte b (first_from flag (line ++ 10 ∷ more))) (All-head EndsNoLine b line unbroken)
    ∙ ap (with_byte b) (over_line line more (All-tail EndsNoLine b line unbroken))

within_line : (text : List ℕ) → All EndsNoLine text → first_from false text ≡ None
within_line [] unbroken = refl
within_line (b ∷ text) unbroken =
    ap (λ flag. with_byte b (first_from flag text)) (All-head EndsNoLine b text unbroken) ∙ ap (with_byte b) (within_line text (All-tail EndsNoLine b text unbroken))

-- the last line is not `%%`
last_line : (text : List ℕ) → All EndsNoLine text → after_separator text ≡ None → first_from true text ≡ None
last_line [] unbroken none = refl
last_line (b ∷ text) unbroken none =
    ap (λ here. here_or b (bundle_here here) (first_from (b == 10) text)) none
    ∙ ap (λ flag. with_byte b (first_from flag text)) (All-head EndsNoLine b text unbroken)
    ∙ ap (with_byte b) (within_line text (All-tail EndsNoLine b text unbroken))

-- the line is `%%`
here : (text second : List ℕ) → after_separator text ≡ Some second → first_from true text ≡ Some (record { plan = []; second = second })
here [] second found = absurd (none-some second found)
here (b ∷ text) second found = ap (λ here. here_or b (bundle_here here) (first_from (b == 10) text)) found

-- ---- the whole input
pub read_nothing : (input : List ℕ) → IsReadTo input input
read_nothing input = record { front = []; whole = refl; split = refl }

-- no byte before a place ends a line
others_before : (text : List ℕ) (n : ℕ) → n ≤ length text → ((k : ℕ) → 0 ≤ k → k < n → ¬ ((slice_index text k == 10) ≡ true)) → All EndsNoLine (take n text)
others_before text n within none = λ k d inside.
    let lt : k < n = omega (arith, inside, length-take-le n text within) in
    false_from_ne_true _ (λ same. none k (omega arith) lt (ap (λ b. b == 10) (get_or_default text k 0 d (omega (arith, lt, within)) ∙ sym (get_or-take n text k d lt)) ∙ same))

module _ (input rest : List ℕ) (read : IsReadTo input rest) where
  pub found_here : (second : List ℕ) → Some second ≡ after_separator rest → Some (record { plan = take (length input - length rest) input; second = second }) ≡ first_bundle_of input
  found_here second found =
      let long : length input ≡ length read.front + length rest = ap length read.whole ∙ length-append read.front rest in
      let n : length input - length rest ≡ length read.front = omega (arith, long) in
      let plan : take (length input - length rest) input ≡ read.front = ap₂ take n read.whole ∙ take-append-le (length read.front) read.front rest (omega arith) ∙ take_all (length read.front) read.front (omega arith) in
      ap (λ (text : List ℕ). Some (record { plan = text; second = second })) plan
      ∙ sym (read.split ∙ ap (behind read.front) (here rest second (sym found)) ∙ behind_found read.front second)

  pub none_left : None ≡ after_separator rest → IsFirstByte (is_byte 10) rest None → None ≡ first_bundle_of input
  none_left none first =
      let unbroken : All EndsNoLine rest = subst (All EndsNoLine) (take_all (length rest) rest (omega arith)) (others_before rest (length rest) (omega arith) first) in
      sym (read.split ∙ ap (behind read.front) (last_line rest unbroken (sym none)) ∙ behind_none read.front)

  pub line_read : (n : ℕ) (after : List ℕ) → None ≡ after_separator rest → IsFirstByte (is_byte 10) rest (Some n) → after ≡ drop (n + 1) rest → IsReadTo input after
  line_read n after none first after_is =
      let newline : slice_index rest n ≡ 10 = eqb-true _ 10 first.1 in
      let next : suc n ≡ n + 1 = omega arith in
      let from_there : drop n rest ≡ 10 ∷ after = drop-cons rest n 0 first.0.high ∙ ap₂ (λ (x : ℕ) (xs : List ℕ). x ∷ xs) newline (ap (λ k. drop k rest) next ∙ sym after_is) in
      let line : List ℕ = take n rest in
      let cut : rest ≡ line ++ 10 ∷ after = sym (take-append-drop n rest) ∙ ap (λ l. line ++ l) from_there in
      let unbroken = let lt = first.0.high in others_before rest n (omega (arith, lt)) first.0.before in
      record {
        front = read.front ++ (line ++ 10 ∷ []);
        whole = read.whole ∙ ap (λ l. read.front ++ l) (cut ∙ sym (append_assoc line (10 ∷ []) after)) ∙ sym (append_assoc read.front (line ++ 10 ∷ []) after);
        split = read.split
            ∙ ap (λ text. behind read.front (first_from true text)) cut
            ∙ ap (behind read.front) (next_line line after unbroken (ap after_separator (sym cut) ∙ sym none))
            ∙ sym (behind_more read.front (line ++ 10 ∷ []) (first_from true after));
      }
