-- The split of a text is the one at its last line that is `%%`.
use Rattle.std.proofs.Common.{◌≡◌, ◌⊎◌, inl, inr, ⊎_elim, ℕ, ◌<◌, Bool, true, false, cond, ◌==◌, ◌||◌, nat_eq, List, [], ◌∷◌, ◌++◌, length, drop, take, slice_index_or, bytes_eq, Option, Some, None, is_some, refl, sym, ap, ap₂, subst, ◌∙◌, arith, length-append, take-append-drop}
use Rattle.std.specs.List.{list_any, slice_split, onto_first, starts_with, join_with_byte}
use Rattle.std.proofs.lemmas.Bool.{cases_Bool, eqb-true, cond-true, cond-false, eq-eqb, true≢false, false_from_ne_true}
use Rattle.std.proofs.lemmas.List.Splits.{join_with_byte-slice_split, length-slice_split}
use Rattle.std.proofs.lemmas.Option.{none-some, same_Some}
use Rattle.std.proofs.lemmas.Slice.Eq.{bytes_eq-Decides}
use Rattle.sizing_cli.specs.Bundle.{Bundle, after_separator, bundle_here, split_here, later_or, split_from, bundle_of}
use Rattle.sizing_cli.specs.Laws.{has_separator, IsWholeLines, IsJoined, IsSplit, InputsSplitAtTheLastSeparator, NoBundleWithoutASeparator}

-- ---- the lines of a text
abbrev lines : List ℕ → List (List ℕ)
lines text = slice_split (λ b. b == 10) text

abbrev is_separator : List ℕ → Bool
is_separator line = bytes_eq line (37 ∷ 37 ∷ [])

-- the lines that begin in a text; the flag says whether the text begins at the beginning of a line
abbrev lines_begun : Bool → List ℕ → List (List ℕ)
lines_begun true text = lines text
lines_begun false text = drop 1 (lines text)

abbrev first_line : List ℕ → List ℕ
first_line text = slice_index_or (lines text) 0 []

behind_first : (flag : Bool) (b : ℕ) (rest : List (List ℕ)) → drop 1 (cond flag ([] ∷ rest) (onto_first b rest)) ≡ cond flag rest (drop 1 rest)
behind_first true b rest = refl
behind_first false b [] = refl
behind_first false b (line ∷ rest) = refl

begun_by : (flag : Bool) (text : List ℕ) → cond flag (lines text) (drop 1 (lines text)) ≡ lines_begun flag text
begun_by true text = refl
begun_by false text = refl

-- the lines that begin after the first byte are those that begin after the first line
begun_next : (b : ℕ) (text : List ℕ) → drop 1 (lines (b ∷ text)) ≡ lines_begun (b == 10) text
begun_next b text = behind_first (b == 10) b (lines text) ∙ begun_by (b == 10) text

front_and_rest : (rows : List (List ℕ)) → 0 < length rows → rows ≡ slice_index_or rows 0 [] ∷ drop 1 rows
front_and_rest [] some = absurd (omega arith)
front_and_rest (row ∷ rows) some = refl

some_lines : (text : List ℕ) → 0 < length (lines text)
some_lines text = omega (arith, length-slice_split (λ b. b == 10) text)

-- the first line is the whole text, or a newline follows it
first_line_is : (text : List ℕ) → (text ≡ first_line text) ⊎ ((rest : List ℕ) × (text ≡ first_line text ++ 10 ∷ rest))
first_line_is text = by_rows (lines text) (some_lines text) (join_with_byte-slice_split 10 text)
  where
    by_rows : (rows : List (List ℕ)) → 0 < length rows → join_with_byte 10 rows ≡ text → (text ≡ slice_index_or rows 0 []) ⊎ ((rest : List ℕ) × (text ≡ slice_index_or rows 0 [] ++ 10 ∷ rest))
    by_rows [] some same = absurd (omega arith)
    by_rows (row ∷ []) some same = inl (sym same)
    by_rows (row ∷ next ∷ rows) some same = inr (join_with_byte 10 (next ∷ rows), sym same)

-- ---- a separator at the beginning
pub starts : (text : List ℕ) → starts_with nat_eq text (37 ∷ 37 ∷ 10 ∷ []) ≡ true → text ≡ 37 ∷ 37 ∷ 10 ∷ drop 3 text
starts text h =
    let front : take 3 text ≡ 37 ∷ 37 ∷ 10 ∷ [] = sym ((bytes_eq-Decides (37 ∷ 37 ∷ 10 ∷ []) (take 3 text)).0 h) in
    sym (take-append-drop 3 text) ∙ ap (λ (t : List ℕ). t ++ drop 3 text) front

no_separator_here : (text : List ℕ) → starts_with nat_eq text (37 ∷ 37 ∷ 10 ∷ []) ≡ false → bytes_eq text (37 ∷ 37 ∷ []) ≡ false → is_separator (first_line text) ≡ false
no_separator_here text unlike other =
    false_from_ne_true _ (λ same.
    let line : first_line text ≡ 37 ∷ 37 ∷ [] = (bytes_eq-Decides (first_line text) (37 ∷ 37 ∷ [])).0 same in
    ⊎_elim (λ all. true≢false (sym ((bytes_eq-Decides text (37 ∷ 37 ∷ [])).1 (all ∙ line)) ∙ other))
    (λ more. true≢false (sym (ap (λ (t : List ℕ). starts_with nat_eq t (37 ∷ 37 ∷ 10 ∷ [])) (more.1 ∙ ap (λ (l : List ℕ). l ++ 10 ∷ more.0) line)) ∙ unlike))
    (first_line_is text))

-- the text has a part after the separator exactly if its first line is `%%`
separator_first : (text : List ℕ) → is_some (after_separator text) ≡ is_separator (first_line text)
separator_first text =
    elim (cases_Bool (starts_with nat_eq text (37 ∷ 37 ∷ 10 ∷ []))) [
      | inl like ↦ ap is_some (cond-true _ _ _ like) ∙ sym (ap (λ (t : List ℕ). is_separator (first_line t)) (starts text like))
      | inr unlike ↦
          elim (cases_Bool (bytes_eq text (37 ∷ 37 ∷ []))) [
            | inl same ↦ ap is_some (cond-false _ _ _ unlike ∙ cond-true _ _ _ same) ∙ sym (ap (λ (t : List ℕ). is_separator (first_line t)) ((bytes_eq-Decides text (37 ∷ 37 ∷ [])).0 same))
            | inr other ↦ ap is_some (cond-false _ _ _ unlike ∙ cond-false _ _ _ other) ∙ sym (no_separator_here text unlike other)
          ]
    ]

-- ---- no separator, no split
some_bundle_here : (second : Option (List ℕ)) → is_some (bundle_here second) ≡ is_some second
some_bundle_here None = refl
some_bundle_here (Some second) = refl

some_later_or : (b : ℕ) (later here : Option Bundle) → is_some (later_or b later here) ≡ (is_some here || is_some later)
some_later_or b (Some later) None = refl
some_later_or b (Some later) (Some here) = refl
some_later_or b None None = refl
some_later_or b None (Some here) = refl

-- a text is split exactly if a line that begins in it is `%%`
splits_where : (at_line : Bool) (text : List ℕ) → is_some (split_from at_line text) ≡ list_any is_separator (lines_begun at_line text)
splits_where true [] = refl
splits_where false [] = refl
splits_where true (b ∷ text) =
    let all : lines (b ∷ text) ≡ first_line (b ∷ text) ∷ lines_begun (b == 10) text = front_and_rest (lines (b ∷ text)) (some_lines (b ∷ text)) ∙ ap (λ (rest : List (List ℕ)). first_line (b ∷ text) ∷ rest) (begun_next b text) in
    some_later_or b (split_from (b == 10) text) (split_here true (b ∷ text))
    ∙ ap₂ (λ (x y : Bool). x || y) (some_bundle_here (after_separator (b ∷ text)) ∙ separator_first (b ∷ text)) (splits_where (b == 10) text)
    ∙ sym (ap (list_any is_separator) all)
splits_where false (b ∷ text) =
    some_later_or b (split_from (b == 10) text) None ∙ splits_where (b == 10) text ∙ sym (ap (list_any is_separator) (begun_next b text))

none_where : {A : Type 0} (o : Option A) → is_some o ≡ false → o ≡ None
none_where None none = refl
none_where (Some x) none = absurd (true≢false none)

-- ---- the split
-- the plan's text ends with a newline, or it is empty and begins at the beginning of a line
abbrev IsFront : Bool → List ℕ → Type 0
IsFront at_line plan = ((plan ≡ []) × (at_line ≡ true)) ⊎ ((front : List ℕ) × (plan ≡ front ++ 10 ∷ []))

-- the split of a text; the flag says whether the text begins at the beginning of a line
record IsSplitFrom (at_line : Bool) (text : List ℕ) (bundle : Bundle) : Type 0 where
  front : IsFront at_line bundle.plan
  whole : IsJoined text bundle
  last : has_separator bundle.second ≡ false

one_byte_more : (b : ℕ) (plan : List ℕ) → IsFront (b == 10) plan → IsFront false (b ∷ plan)
one_byte_more b plan (inl here) = inr ([], ap₂ (λ (x : ℕ) (xs : List ℕ). x ∷ xs) (eqb-true b 10 here.1) here.0)
one_byte_more b plan (inr more) = inr (b ∷ more.0, ap (λ (xs : List ℕ). b ∷ xs) more.1)

later_front : (at_line : Bool) (plan : List ℕ) (b : ℕ) → IsFront false (b ∷ plan) → IsFront at_line (b ∷ plan)
later_front at_line plan b (inl here) = absurd (true≢false (sym here.1))
later_front at_line plan b (inr more) = inr more

split_later : (at_line : Bool) (b : ℕ) (text : List ℕ) (later : Bundle) → IsSplitFrom (b == 10) text later → IsSplitFrom at_line (b ∷ text) (record { plan = b ∷ later.plan; second = later.second })
split_later at_line b text later split = record {
  front = later_front at_line later.plan b (one_byte_more b later.plan split.front);
  whole = ⊎_elim (λ same. inl (ap (λ (t : List ℕ). b ∷ t) same)) (λ same. inr (ap (λ (t : List ℕ). b ∷ t) same.0, same.1)) split.whole;
  last = split.last;
}

-- the first line is `%%`, and no later one is
split_first : (b : ℕ) (text : List ℕ) (bundle : Bundle) → split_from (b == 10) text ≡ None → bundle_here (after_separator (b ∷ text)) ≡ Some bundle → IsSplitFrom true (b ∷ text) bundle
split_first b text bundle none found =
    let whole : List ℕ = b ∷ text in
    let P : Bundle → Type 0 = λ x. IsSplitFrom true whole x in
    elim (cases_Bool (starts_with nat_eq whole (37 ∷ 37 ∷ 10 ∷ []))) [
      | inl like ↦
          let is : record { plan = []; second = drop 3 whole } ≡ bundle = same_Some _ bundle (sym (ap bundle_here (cond-true _ _ _ like)) ∙ found) in
          let last : has_separator (drop 3 whole) ≡ false =
          sym (ap (λ (t : List ℕ). list_any is_separator (drop 1 (lines t))) (starts whole like))
          ∙ ap (list_any is_separator) (begun_next b text) ∙ sym (splits_where (b == 10) text) ∙ ap is_some none
          in
          subst P is (record { front = inl (refl, refl); whole = inl (starts whole like); last = last })
      | inr unlike ↦
          elim (cases_Bool (bytes_eq whole (37 ∷ 37 ∷ []))) [
            | inl same ↦
                let is : record { plan = []; second = [] } ≡ bundle = same_Some _ bundle (sym (ap bundle_here (cond-false _ _ _ unlike ∙ cond-true _ _ _ same)) ∙ found) in
                subst P is (record { front = inl (refl, refl); whole = inr ((bytes_eq-Decides whole (37 ∷ 37 ∷ [])).0 same, refl); last = refl })
            | inr other ↦ absurd (none-some bundle (sym (ap bundle_here (cond-false _ _ _ unlike ∙ cond-false _ _ _ other)) ∙ found))
          ]
    ]

split_read : (at_line : Bool) (text : List ℕ) (bundle : Bundle) → split_from at_line text ≡ Some bundle → IsSplitFrom at_line text bundle
split_read at_line [] bundle found = absurd (none-some bundle found)
split_read at_line (b ∷ text) bundle found = by_later at_line (split_from (b == 10) text) (split_read (b == 10) text) refl found
  where
    by_later : (at_line : Bool) (later : Option Bundle) → ((found : Bundle) → split_from (b == 10) text ≡ Some found → IsSplitFrom (b == 10) text found)
        → split_from (b == 10) text ≡ later → later_or b later (split_here at_line (b ∷ text)) ≡ Some bundle → IsSplitFrom at_line (b ∷ text) bundle
    by_later at_line (Some later) rest same found =
        let P : Bundle → Type 0 = λ x. IsSplitFrom at_line (b ∷ text) x in
        subst P (same_Some _ bundle found) (split_later at_line b text later (rest later same))
    by_later true None rest same found = split_first b text bundle same found
    by_later false None rest same found = absurd (none-some bundle found)

-- ---- the converse
-- the text from the line `%%` to the end
abbrev IsTail : List ℕ → List ℕ → Type 0
IsTail tail second = (tail ≡ 37 ∷ 37 ∷ 10 ∷ second) ⊎ ((tail ≡ 37 ∷ 37 ∷ []) × (second ≡ []))

split_of_tail : (tail second : List ℕ) → IsTail tail second → has_separator second ≡ false → split_from true tail ≡ Some (record { plan = []; second = second })
split_of_tail tail second (inl same) last =
    let none : split_from true second ≡ None = none_where (split_from true second) (splits_where true second ∙ last) in
    ap (split_from true) same ∙ rw none refl
split_of_tail tail second (inr same) last = ap (split_from true) same.0 ∙ ap (λ (s : List ℕ). Some (record { plan = []; second = s })) (sym same.1)

front_of_rest : (at_line : Bool) (b : ℕ) (plan : List ℕ) → IsFront at_line (b ∷ plan) → IsFront (b == 10) plan
front_of_rest at_line b plan (inl here) = absurd cc
front_of_rest at_line b plan (inr more) = by_front more.0 more.1
  where
    by_front : (front : List ℕ) → b ∷ plan ≡ front ++ 10 ∷ [] → IsFront (b == 10) plan
    by_front [] same = let newline : b ≡ 10 = cc in inl (cc, eq-eqb b 10 newline)
    by_front (x ∷ front) same = inr (front, cc)

split_written : (at_line : Bool) (plan tail second : List ℕ) → IsFront at_line plan → IsTail tail second → has_separator second ≡ false
    → split_from at_line (plan ++ tail) ≡ Some (record { plan = plan; second = second })
split_written at_line [] tail second front is_tail last =
    let here : at_line ≡ true = ⊎_elim (λ empty. empty.1) (λ more. absurd (omega (arith, length-append more.0 (10 ∷ []), ap (λ (t : List ℕ). length t) more.1))) front in
    ap (λ flag. split_from flag tail) here ∙ split_of_tail tail second is_tail last
split_written at_line (b ∷ plan) tail second front is_tail last =
    ap (λ later. later_or b later (split_here at_line (b ∷ (plan ++ tail)))) (split_written (b == 10) plan tail second (front_of_rest at_line b plan front) is_tail last)

-- ---- the laws
front_is_whole_lines : (plan : List ℕ) → IsFront true plan → IsWholeLines plan
front_is_whole_lines plan (inl here) = inl here.0
front_is_whole_lines plan (inr more) = inr more

front_from : (plan : List ℕ) → IsWholeLines plan → IsFront true plan
front_from plan (inl empty) = inl (empty, refl)
front_from plan (inr more) = inr more

splits_where_joined : (input : List ℕ) (bundle : Bundle) → IsSplit input bundle → bundle_of input ≡ Some bundle
splits_where_joined input bundle split =
    ⊎_elim (λ same. ap (split_from true) same ∙ split_written true bundle.plan (37 ∷ 37 ∷ 10 ∷ bundle.second) bundle.second (front_from bundle.plan split.plan) (inl refl) split.last)
    (λ same. ap (split_from true) same.0 ∙ split_written true bundle.plan (37 ∷ 37 ∷ []) bundle.second (front_from bundle.plan split.plan) (inr (refl, same.1)) split.last)
    split.whole

pub split_is : InputsSplitAtTheLastSeparator
split_is input bundle = (
  λ found. let split = split_read true input bundle found in record { plan = front_is_whole_lines bundle.plan split.front; whole = split.whole; last = split.last },
  splits_where_joined input bundle,
)

pub no_split_is : NoBundleWithoutASeparator
no_split_is input = (λ none. sym (splits_where true input) ∙ ap is_some none, λ none. none_where (bundle_of input) (splits_where true input ∙ none))
