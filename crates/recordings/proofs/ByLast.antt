-- Induction over lists of lines, by their last line.
use Rattle.std.proofs.Common.{List, [], ◌∷◌, ◌++◌, refl, ap, sym, subst, ◌∙◌, append-nil, append_assoc}
use Rattle.recordings.specs.RecordingLine.{RecordedLine}
use Rattle.recordings.proofs.Keeping.{Keeps, keeps_all}
use Rattle.recordings.specs.PathsOfLines.{KeepsRules}

onward : (P : List RecordedLine → Type 0) → ((before : List RecordedLine) (line : RecordedLine) → P before → P (before ++ line ∷ [])) → (front rest : List RecordedLine) → P front → P (front ++ rest)
onward P more front [] h = subst P (sym (append-nil front)) h
onward P more front (line ∷ rest) h = subst P (append_assoc front (line ∷ []) rest) (onward P more (front ++ line ∷ []) rest (more front line h))

pub by_last : (P : List RecordedLine → Type 0) → P [] → ((before : List RecordedLine) (line : RecordedLine) → P before → P (before ++ line ∷ [])) → (lines : List RecordedLine) → P lines
by_last P none more lines = onward P more [] lines none

-- ---- lines that keep the rules
pub keeps_before : (before : List RecordedLine) (line : RecordedLine) → KeepsRules (before ++ line ∷ []) → KeepsRules before
keeps_before before line kept = record {
  unbroken = λ front one after is. kept.unbroken front one (after ++ line ∷ []) (ap (λ (lines : List RecordedLine). lines ++ line ∷ []) is ∙ append_assoc front (one ∷ after) (line ∷ []));
}

pub keeps_last : (before : List RecordedLine) (line : RecordedLine) → KeepsRules (before ++ line ∷ []) → Keeps before line
keeps_last before line kept = keeps_all before line (kept.unbroken before line [] refl)

pub by_kept : (P : List RecordedLine → Type 0) → P [] → ((before : List RecordedLine) (line : RecordedLine) → KeepsRules before → Keeps before line → P before → P (before ++ line ∷ [])) → (lines : List RecordedLine) → KeepsRules lines → P lines
by_kept P none more =
    by_last (λ lines. KeepsRules lines → P lines) (λ kept. none)
    (λ before line h kept. more before line (keeps_before before line kept) (keeps_last before line kept) (h (keeps_before before line kept)))
