-- The invariant of the iterator after one more line.
use Rattle.std.proofs.Common.{◌≡◌, ◌⊎◌, inl, inr, ℕ, zero, suc, ◌+◌, ◌-◌, ◌^◌, ◌<◌, ◌≤◌, min, List, [], ◌∷◌, ◌++◌, length, take, drop, Option, Some, None, refl, ap, sym, subst, ◌∙◌, arith}
use Rattle.std.specs.List.{filter_map}
use Rattle.std.specs.Option.{option_map}
use Rattle.std.proofs.lemmas.Bool.{cases_lt}
use Rattle.std.proofs.lemmas.List.{length-append}
use borrow.Author.Count.{below_more}
use Rattle.recordings.specs.RecordingLine.{RecordedLine}
use Rattle.recordings.specs.declared.fault.FaultReason.{FaultReason}
use Rattle.recordings.specs.declared.fault.FaultReason.TheVariants as reason
use Rattle.recordings.specs.declared.rule.LineRule.TheVariants.{Frame}
use Rattle.recordings.specs.declared.checked_lines.CheckedLines.{CheckedLines}
use Rattle.recordings.specs.Rules.{first_broken_rule}
use Rattle.recordings.specs.StateOfLines.{Represents}
use Rattle.recordings.specs.Faults.{reason_for, lines_before, reason_at, IsFirstFault}
use Rattle.recordings.specs.CheckedLines.{AreUnbroken, lines_left, IsCheckerState, IsAcceptedNext, AreAllAccepted}
use Rattle.recordings.proofs.FirstFaults.{there_next, rest_next, within_next, before_next, reason_next, none_past, first_missing}

-- ---- one more line that breaks no rule
-- a line of a list to which `one` is appended is `one` or a line of the list
last_or_before : (lines before after : List RecordedLine) (one line : RecordedLine) → lines ++ one ∷ [] ≡ before ++ line ∷ after → ((lines ≡ before) × (one ≡ line)) ⊎ ((more : List RecordedLine) × (lines ≡ before ++ line ∷ more))
last_or_before [] [] after one line h = inl (refl, cc)
last_or_before [] (first ∷ []) after one line h = absurd cc
last_or_before [] (first ∷ second ∷ before) after one line h = absurd cc
last_or_before (first ∷ lines) [] after one line h = inr (lines, cc)
last_or_before (first ∷ lines) (other ∷ before) after one line h =
    let same : first ≡ other = cc in
    elim (last_or_before lines before after one line cc) [
      | inl both ↦ inl (cc, both.1)
      | inr more ↦ inr (more.0, cc)
    ]

unbroken_more : (lines : List RecordedLine) (one : RecordedLine) → AreUnbroken lines → first_broken_rule lines one ≡ None → AreUnbroken (lines ++ one ∷ [])
unbroken_more lines one unbroken kept = λ before line after h.
    elim (last_or_before lines before after one line h) [
      | inl both ↦ subst (λ (xs : List RecordedLine). first_broken_rule xs line ≡ None) both.0 (subst (λ (x : RecordedLine). first_broken_rule lines x ≡ None) both.1 kept)
      | inr more ↦ unbroken before line more.0 more.1
    ]

-- the empty list has no line that breaks a rule
pub unbroken_none : AreUnbroken []
unbroken_none = λ before line after h. absurd (at_end before after line h)
  where
    at_end : (before after : List RecordedLine) (line : RecordedLine) → [] ≡ before ++ line ∷ after → ⊥
    at_end [] after line h = cc
    at_end (first ∷ before) after line h = cc

-- ---- the next line
module _ (all : List (Option RecordedLine)) (old : CheckedLines) (r : IsCheckerState all old) (line : Option RecordedLine) (rest : List (Option RecordedLine)) (next : old.lines ≡ line ∷ rest) where
  next_is : drop old.number all ≡ line ∷ rest
  next_is = sym r.rest ∙ next

  -- the number of the next line is not saturated
  pub number_next : (number : ℕ) → number ≡ min (old.number + 1) (2 ^ 64 - 1) → number ≡ old.number + 1
  number_next number is = omega (arith, within_next all rest old.number line next_is, r.few, is)

  -- a next line that is bad is the first bad line
  pub bad_next : (number : ℕ) (b : FaultReason) → number ≡ old.number + 1 → reason_for (lines_before all old.number) line ≡ Some b → IsFirstFault all (Some (record { line = number; reason = b }))
  bad_next number b is bad = (old.number, is, reason_next all rest old.number line next_is ∙ bad, r.good)

-- the next line is valid
module _ (all : List (Option RecordedLine)) (old new : CheckedLines) (r : IsCheckerState all old) (line : RecordedLine) (next : old.lines ≡ Some line ∷ new.lines) where
  next_good : drop old.number all ≡ Some line ∷ new.lines
  next_good = sym r.rest ∙ next

  pub good_next : new.number ≡ old.number + 1 → first_broken_rule (lines_before all old.number) line ≡ None → Represents new.validator (lines_before all old.number ++ line ∷ []) → IsAcceptedNext all old line new
  good_next number kept represents =
      let n = old.number in
      let taken : lines_before all new.number ≡ lines_before all n ++ line ∷ [] = ap (lines_before all) number ∙ before_next all new.lines n (Some line) next_good in
      let unbroken : AreUnbroken (lines_before all n ++ line ∷ []) = unbroken_more (lines_before all n) line r.unbroken kept in
      let none : reason_at all n ≡ None = reason_next all new.lines n (Some line) next_good ∙ ap (option_map reason.LineRule) kept in
      let good : (k : ℕ) → k < n + 1 → reason_at all k ≡ None = below_more _ _ r.good none in
      let one_less : lines_left old ≡ suc (lines_left new) = ap length next in
      let more : length (lines_before all new.number) ≡ length (lines_before all n) + 1 = ap length taken ∙ length-append (lines_before all n) (line ∷ []) in
      record {
        number = number;
        there = there_next all new.lines n (Some line) next_good;
        kept = kept;
        taken = taken;
        fewer = omega (arith, one_less);
        checked = record {
          few = r.few;
          within = subst (λ (m : ℕ). m ≤ length all) (sym number) (within_next all new.lines n (Some line) next_good);
          rest = rest_next all new.lines n (Some line) next_good ∙ ap (λ (m : ℕ). drop m all) (sym number);
          represents = subst (Represents new.validator) (sym taken) represents;
          counted = more ∙ (ap (λ (m : ℕ). m + 1) r.counted ∙ sym number);
          unbroken = subst AreUnbroken (sym taken) unbroken;
          good = subst (λ (m : ℕ). (k : ℕ) → k < m → reason_at all k ≡ None) (sym number) good;
        };
      }

-- ---- after the last line
-- if no line comes after the first n lines, these are all lines
take_all : (lines : List (Option RecordedLine)) (n : ℕ) → drop n lines ≡ [] → take n lines ≡ lines
take_all [] zero none = refl
take_all [] (suc n) none = refl
take_all (first ∷ lines) zero none = grind (arith, none)
take_all (first ∷ lines) (suc n) none = ap (λ (more : List (Option RecordedLine)). first ∷ more) (take_all lines n none)

module _ (all : List (Option RecordedLine)) (old : CheckedLines) (r : IsCheckerState all old) (next : old.lines ≡ []) where
  -- if the text has no line, the fault is that line 1 breaks O1
  pub missing_first : old.number ≡ 0 → reason_at all 0 ≡ Some (reason.LineRule Frame)
  missing_first none = first_missing all (ap (λ (n : ℕ). drop n all) (sym none) ∙ (sym r.rest ∙ next))

  -- if no line is left after the first, the iterator has returned all lines
  pub all_taken : (lines : List (Option RecordedLine)) → lines ≡ [] → 0 < old.number → AreAllAccepted all old (record { lines = lines; validator = old.validator; number = old.number })
  all_taken lines none some =
      let gone : drop old.number all ≡ [] = sym r.rest ∙ next in
      record {
        none = λ i.
            elim (cases_lt i old.number) [
              | inl below ↦ r.good i below
              | inr past ↦ none_past all old.number i gone some r.within past
            ];
        taken = ap (λ (lines : List (Option RecordedLine)). filter_map (λ line. line) lines) (take_all all old.number gone);
        checked = record { few = r.few; within = r.within; rest = none ∙ sym gone; represents = r.represents; counted = r.counted; unbroken = r.unbroken; good = r.good };
      }
