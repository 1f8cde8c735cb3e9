-- The split found by looking at lines from the end of an input is the split at its last line `%%`.
use Rattle.std.proofs.Common.{◌≡◌, ◌≢◌, ◌==◌, inl, inr, ⊎_elim, ℕ, zero, suc, ◌+◌, ◌-◌, ◌<◌, ◌≤◌, Bool, true, false, List, [], ◌∷◌, ◌++◌, length, take, drop, get_or, slice_index, nat_eq, bytes_eq, Option, Some, None, refl, sym, ap, ap₂, subst, ◌∙◌, arith, append_assoc, append-nil, take-append-drop, length-drop}
use Rattle.std.specs.List.{IsAfterLastMatch, HoldsAt, All, starts_with}
use Rattle.memchr.specs.Find.{IsLastByte, is_byte}
use Rattle.std.proofs.Math.Seq.{take-suc}
use Rattle.std.proofs.Math.Seq.{drop-cons}
use Rattle.std.proofs.lemmas.Bool.{cases_Bool, eqb-true, eq-eqb, cond-false, true≢false, false_from_ne_true}
use Rattle.std.proofs.lemmas.Slice.Eq.{bytes_eq-Decides}
use Rattle.std.proofs.lemmas.List.{get_or_default, take-append-le, drop-append-le, get_or-drop}
use Rattle.std.proofs.lemmas.List.Elements.{All-head, All-tail}
use Rattle.std.proofs.lemmas.Option.{none-some}
use Rattle.sizing_cli.specs.Bundle.{Bundle, split_from, split_here, bundle_here, later_or, bundle_of, after_separator}
use Rattle.sizing_cli.specs.Laws.{IsWholeLines}
use Rattle.sizing_cli.proofs.LastSeparator.{starts}

-- no line that begins after this prefix of the input is `%%`, wherever in a line the prefix ends
pub record HasNoLaterSeparator (input front : List ℕ) : Type 0 where
  pub behind : List ℕ
  pub whole : input ≡ front ++ behind
  pub none : (at_line : Bool) → split_from at_line behind ≡ None

-- no line that begins after this prefix of the input, which ends within a line, is `%%`
pub record HasNoLaterSeparatorInLine (input front : List ℕ) : Type 0 where
  pub behind : List ℕ
  pub whole : input ≡ front ++ behind
  pub none : split_from false behind ≡ None

-- the rest of the input begins with a line, and no later line is `%%`
pub record IsCutAtLine (input plan rest : List ℕ) : Type 0 where
  pub whole : input ≡ plan ++ rest
  pub lines : IsWholeLines plan
  pub none : split_from false rest ≡ None

abbrev EndsNoLine : ℕ → Type 0
EndsNoLine b = (b == 10) ≡ false

-- ---- lines without a `%`
-- a line that begins with another byte is not `%%`
none_here : (at_line : Bool) (b : ℕ) (text : List ℕ) → (b == 37) ≡ false → split_here at_line (b ∷ text) ≡ None
none_here false b text other = refl
none_here true b text other =
    elim (cases_Bool (starts_with nat_eq (b ∷ text) (37 ∷ 37 ∷ 10 ∷ []))) [
      | inl like ↦ absurd (other_byte b text (37 ∷ 10 ∷ drop 3 (b ∷ text)) other (starts (b ∷ text) like))
      | inr unlike ↦
          elim (cases_Bool (bytes_eq (b ∷ text) (37 ∷ 37 ∷ []))) [
            | inl same ↦ absurd (other_byte b text (37 ∷ []) other ((bytes_eq-Decides (b ∷ text) (37 ∷ 37 ∷ [])).0 same))
            | inr unequal ↦ ap bundle_here (cond-false _ _ _ unlike ∙ cond-false _ _ _ unequal)
          ]
    ]
  where
    other_byte : (b : ℕ) (text rest : List ℕ) → (b == 37) ≡ false → b ∷ text ≡ 37 ∷ rest → ⊥
    other_byte b text rest other same = true≢false (sym (eq-eqb b 37 (cc same)) ∙ other)

none_without : (at_line : Bool) (front behind : List ℕ) → All (λ b. (b == 37) ≡ false) front → ((at_line : Bool) → split_from at_line behind ≡ None) → split_from at_line (front ++ behind) ≡ None
none_without at_line [] behind other none = none at_line
none_without at_line (b ∷ front) behind other none =
    ap₂ (later_or b) (none_without (b == 10) front behind (All-tail (λ b. (b == 37) ≡ false) b front other) none) (none_here at_line b (front ++ behind) (All-head (λ b. (b == 37) ≡ false) b front other))

-- before the first step
pub seen_nothing : (input : List ℕ) → HasNoLaterSeparator input input
seen_nothing input = record { behind = []; whole = sym (append-nil input); none = λ at_line. none_of_nothing at_line }
  where
    none_of_nothing : (at_line : Bool) → split_from at_line [] ≡ None
    none_of_nothing true = refl
    none_of_nothing false = refl

-- no byte after a place is `%`
others_behind : (front : List ℕ) (start : ℕ) → ((k : ℕ) → start ≤ k → k < length front → ¬ ((slice_index front k == 37) ≡ true)) → All (λ b. (b == 37) ≡ false) (drop start front)
others_behind front start none = λ k d inside.
    let within : start + k < length front = omega (arith, length-drop start front) in
    false_from_ne_true _ (λ same. none (start + k) (omega arith) within (ap (λ b. b == 37) (get_or_default front (start + k) 0 d within ∙ sym (get_or-drop start front k d)) ∙ same))

-- the prefix contains no `%`
pub none_in_front : (input front : List ℕ) → IsLastByte (is_byte 37) front None → HasNoLaterSeparator input front → None ≡ bundle_of input
none_in_front input front last seen = sym (ap bundle_of seen.whole ∙ none_without true front seen.behind (others_behind front 0 last) seen.none)

-- the prefix before its last `%`
pub seen_behind_last : (input front : List ℕ) (place : ℕ) → IsLastByte (is_byte 37) front (Some place) → HasNoLaterSeparator input front → HasNoLaterSeparatorInLine input (take place front)
seen_behind_last input front place last seen =
    let rest : List ℕ = drop (place + 1) front in
    let here : slice_index front place ≡ 37 = eqb-true _ 37 last.1 in
    let next : suc place ≡ place + 1 = omega arith in
    let from_there : drop place front ≡ 37 ∷ rest = drop-cons front place 0 last.0.high ∙ ap₂ (λ (x : ℕ) (xs : List ℕ). x ∷ xs) here (ap (λ n. drop n front) next) in
    let cut : front ≡ take place front ++ 37 ∷ rest = sym (take-append-drop place front) ∙ ap (λ l. take place front ++ l) from_there in
    record {
      behind = 37 ∷ (rest ++ seen.behind);
      whole = seen.whole ∙ ap (λ l. l ++ seen.behind) cut ∙ append_assoc (take place front) (37 ∷ rest) seen.behind;
      none = ap (λ later. later_or 37 later None) (none_without false rest seen.behind (others_behind front (place + 1) last.0.after) seen.none);
    }

-- ---- lines
-- no line begins within a line
none_over : (line behind : List ℕ) → All EndsNoLine line → split_from false behind ≡ None → split_from false (line ++ behind) ≡ None
none_over [] behind unbroken none = none
none_over (b ∷ line) behind unbroken none =
    ap (λ flag. later_or b (split_from flag (line ++ behind)) None) (All-head EndsNoLine b line unbroken)
    ∙ ap (λ later. later_or b later None) (none_over line behind (All-tail EndsNoLine b line unbroken) none)

-- the text before a place that follows a newline is whole lines
whole_lines_before : (front : List ℕ) (n : ℕ) → n ≤ length front → (0 < n → HoldsAt (λ b. (b == 10) ≡ true) front (n - 1)) → IsWholeLines (take n front)
whole_lines_before front zero inside newline = inl refl
whole_lines_before front (suc n) inside newline =
    let place : suc n - 1 ≡ n = omega arith in
    let newline_there : get_or front n 0 ≡ 10 = eqb-true (get_or front n 0) 10 (rw place at (newline (omega arith) 0)) in
    inr (take n front, take-suc front n 0 inside ∙ ap (λ b. take n front ++ b ∷ []) newline_there)

-- the input is cut where the last line of the prefix begins
pub cut_at_line : (input front plan rest : List ℕ) (start : ℕ) → start ≤ length front → IsAfterLastMatch (λ b. b == 10) front start → HasNoLaterSeparatorInLine input front
    → plan ≡ take start input → rest ≡ drop start input → IsCutAtLine input plan rest
cut_at_line input front plan rest start within last seen plan_is rest_is =
    let line : List ℕ = drop start front in
    let unbroken : All EndsNoLine line = λ k d inside. subst EndsNoLine (sym (get_or-drop start front k d)) (last.0 (start + k) d (omega arith) (omega (arith, length-drop start front))) in
    let plan_of_front : take start front ≡ plan = sym (plan_is ∙ ap (take start) seen.whole ∙ take-append-le start front seen.behind within) in
    let rest_of_line : line ++ seen.behind ≡ rest = sym (rest_is ∙ ap (drop start) seen.whole ∙ drop-append-le start front seen.behind within) in
    record {
      whole = sym (take-append-drop start input) ∙ ap₂ (λ x y. x ++ y) (sym plan_is) (sym rest_is);
      lines = subst IsWholeLines plan_of_front (whole_lines_before front start within last.1);
      none = ap (split_from false) (sym rest_of_line) ∙ none_over line seen.behind unbroken seen.none;
    }

-- if no later line is `%%`, the split is at the first line, or there is none
split_at_line : (text : List ℕ) → split_from false text ≡ None → split_from true text ≡ bundle_here (after_separator text)
split_at_line [] none = refl
split_at_line (b ∷ text) none = by_later (split_from (b == 10) text) none
  where
    by_later : (later : Option Bundle) → later_or b later None ≡ None → later_or b later (bundle_here (after_separator (b ∷ text))) ≡ bundle_here (after_separator (b ∷ text))
    by_later None none = refl
    by_later (Some found) none = absurd (none-some _ (sym none))

-- a split after a newline is that of the whole text
split_behind : (at_line : Bool) (front rest second : List ℕ) → split_from true rest ≡ Some (record { plan = []; second = second })
    → split_from at_line (front ++ 10 ∷ rest) ≡ Some (record { plan = front ++ 10 ∷ []; second = second })
split_behind at_line [] rest second found = ap (λ later. later_or 10 later (split_here at_line (10 ∷ rest))) found
split_behind at_line (b ∷ front) rest second found = ap (λ later. later_or b later (split_here at_line (b ∷ (front ++ 10 ∷ rest)))) (split_behind (b == 10) front rest second found)

split_joined : (plan rest second : List ℕ) → IsWholeLines plan → split_from true rest ≡ Some (record { plan = []; second = second })
    → bundle_of (plan ++ rest) ≡ Some (record { plan = plan; second = second })
split_joined plan rest second (inl empty) found = rw empty found
split_joined plan rest second (inr more) found =
    ap (λ l. bundle_of (l ++ rest)) more.1 ∙ ap bundle_of (append_assoc more.0 (10 ∷ []) rest) ∙ split_behind true more.0 rest second found
    ∙ ap (λ l. Some (record { plan = l; second = second })) (sym more.1)

module _ (input plan rest : List ℕ) (cut : IsCutAtLine input plan rest) where
  -- the line is `%%`
  pub found_at : (second : List ℕ) → Some second ≡ after_separator rest → Some (record { plan = plan; second = second }) ≡ bundle_of input
  found_at second found =
      sym (ap bundle_of cut.whole ∙ split_joined plan rest second cut.lines (split_at_line rest cut.none ∙ ap bundle_here (sym found)))

  -- the line is not `%%`, and it is the first line
  pub none_at : None ≡ after_separator rest → ((front : List ℕ) → plan ≢ front ++ 10 ∷ []) → None ≡ bundle_of input
  none_at none first =
      let empty : plan ≡ [] = ⊎_elim (λ empty. empty) (λ more. absurd (first more.0 more.1)) cut.lines in
      sym (ap bundle_of cut.whole ∙ ap (λ l. bundle_of (l ++ rest)) empty ∙ split_at_line rest cut.none ∙ ap bundle_here (sym none))

  -- the line is not `%%`, and follows this prefix and its newline
  pub seen_further : (front : List ℕ) → None ≡ after_separator rest → plan ≡ front ++ 10 ∷ [] → HasNoLaterSeparator input front
  seen_further front none plan_is = record {
    behind = 10 ∷ rest;
    whole = cut.whole ∙ ap (λ l. l ++ rest) plan_is ∙ append_assoc front (10 ∷ []) rest;
    none = λ at_line. ap₂ (later_or 10) (split_at_line rest cut.none ∙ ap bundle_here (sym none)) (none_here at_line 10 rest refl);
  }
