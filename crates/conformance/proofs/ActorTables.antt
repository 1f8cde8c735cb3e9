-- Valid recordings.
use Rattle.std.proofs.Common.{◌≡◌, ℕ, suc, List, [], ◌∷◌, ◌++◌, length, take, drop, map, slice_get, Option, Some, None, refl, ap, sym, ◌∙◌, append_assoc, arith}
use Rattle.std.specs.Option.{option_map, option_and_then}
use Rattle.recordings.specs.RecordingLine.{RecordedLine, lines_read}
use Rattle.recordings.specs.declared.fault.FaultReason.TheVariants as reason
use Rattle.recordings.specs.Faults.{IsFirstFault, reason_for, lines_before, reason_at}
use Rattle.recordings.specs.Rules.{first_broken_rule}
use Rattle.recordings.specs.PathsOfLines.{KeepsRules}
use Rattle.conformance.specs.Lines.{with_form, lines_of}
use Rattle.conformance.proofs.ListSteps.{both_next}

-- ---- a prefix of the lines
pub keeps_front : (front after lines : List RecordedLine) → lines ≡ front ++ after → KeepsRules lines → KeepsRules front
keeps_front front after lines is keeps = record {
  unbroken = λ before line more h. keeps.unbroken before line (more ++ after) (is ∙ (ap (λ (xs : List RecordedLine). xs ++ after) h ∙ append_assoc before (line ∷ more) after));
}

-- ---- a text without an invalid line
-- If every line is well-formed, filtering the well-formed lines loses nothing.
with_none : (lines : List (Option RecordedLine)) → ((i : ℕ) → slice_get lines i ≡ Some None → ⊥) → lines ≡ map Some (with_form lines)
with_none [] good = refl
with_none (None ∷ lines) good = absurd (good 0 refl)
with_none (Some line ∷ lines) good = ap (λ (more : List (Option RecordedLine)). Some line ∷ more) (with_none lines (λ i. good (suc i)))

after_is : (lines : List (Option RecordedLine)) (i : ℕ) (line : Option RecordedLine) → slice_get lines i ≡ Some line → reason_at lines i ≡ reason_for (lines_before lines i) line
unfolding reason_at
after_is [] i line h = grind (arith, h)
after_is (first ∷ lines) i line h = ap (option_and_then (reason_for (lines_before (first ∷ lines) i))) h

all_good : (lines : List (Option RecordedLine)) → IsFirstFault lines None → (i : ℕ) → slice_get lines i ≡ Some None → ⊥
all_good lines none i h =
    let bad : Some reason.Form ≡ None = sym (after_is lines i None h) ∙ none i in
    cc

at_line : (before after : List RecordedLine) (line : RecordedLine) → slice_get (map Some (before ++ line ∷ after)) (length before) ≡ Some (Some line)
at_line [] after line = refl
at_line (one ∷ before) after line = at_line before after line

front_is : (before after : List RecordedLine) (line : RecordedLine) → lines_before (map Some (before ++ line ∷ after)) (length before) ≡ before
front_is [] after line = refl
front_is (one ∷ before) after line = ap (λ (more : List RecordedLine). one ∷ more) (front_is before after line)

no_rule : (before : List RecordedLine) (line : RecordedLine) → option_map reason.LineRule (first_broken_rule before line) ≡ None → first_broken_rule before line ≡ None
no_rule before line h = grind (arith, h)

pub keeps_rules : (text : List ℕ) → IsFirstFault (lines_read text) None → KeepsRules (lines_of text)
keeps_rules text none =
    let lines = lines_read text in
    let same : lines ≡ map Some (with_form lines) = with_none lines (all_good lines none) in
    record {
      unbroken = λ before line after h.
          let all : lines ≡ map Some (before ++ line ∷ after) = same ∙ ap (λ (xs : List RecordedLine). map Some xs) h in
          let here : slice_get lines (length before) ≡ Some (Some line) = ap (λ (xs : List (Option RecordedLine)). slice_get xs (length before)) all ∙ at_line before after line in
          let front : lines_before lines (length before) ≡ before = ap (λ (xs : List (Option RecordedLine)). lines_before xs (length before)) all ∙ front_is before after line in
          no_rule before line (sym (ap (λ (xs : List RecordedLine). reason_for xs (Some line)) front) ∙ (sym (after_is lines (length before) (Some line) here) ∙ none (length before)));
    }

-- ---- the next line
pub keeps_next : (lines rest : List RecordedLine) (n : ℕ) (line : RecordedLine) → drop n lines ≡ line ∷ rest → KeepsRules lines → KeepsRules (take n lines ++ line ∷ [])
keeps_next lines rest n line next keeps = keeps_front (take n lines ++ line ∷ []) rest lines (both_next lines rest n line next) keeps
