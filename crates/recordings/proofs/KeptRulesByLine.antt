-- The empty list keeps the rules. A list keeps the rules if its last line breaks none and the lines before it keep them.
use Rattle.std.proofs.Common.{◌≡◌, List, [], ◌∷◌, ◌++◌, None, refl, ap, sym, subst, ◌∙◌, append_assoc}
use Rattle.std.proofs.lemmas.List.{same_from_push}
use Rattle.recordings.specs.RecordingLine.{RecordedLine}
use Rattle.recordings.specs.Rules.{first_broken_rule}
use Rattle.recordings.specs.PathsOfLines.{KeepsRules}

no_line : (before : List RecordedLine) (line : RecordedLine) (after : List RecordedLine) → [] ≡ before ++ line ∷ after → first_broken_rule before line ≡ None
no_line [] line after is = cc
no_line (first ∷ before) line after is = cc

pub keeps_none : KeepsRules []
keeps_none = record { unbroken = no_line }

last_of : (first : RecordedLine) (lines : List RecordedLine) → (rest : List RecordedLine) × (last : RecordedLine) × (first ∷ lines ≡ rest ++ last ∷ [])
last_of first [] = ([], first, refl)
last_of first (second ∷ lines) = let s = last_of second lines in (first ∷ s.0, s.1, ap (λ (all : List RecordedLine). first ∷ all) s.2)

at_each : (before : List RecordedLine) (line : RecordedLine) → KeepsRules before → first_broken_rule before line ≡ None → (front : List RecordedLine) (one : RecordedLine) (after : List RecordedLine) → before ++ line ∷ [] ≡ front ++ one ∷ after → first_broken_rule front one ≡ None
at_each before line kept unbroken front one [] is =
    let same = same_from_push before front line one is in
    subst (λ lines. first_broken_rule lines one ≡ None) same.0 (subst (λ last. first_broken_rule before last ≡ None) same.1 unbroken)
at_each before line kept unbroken front one (next ∷ after) is =
    let s = last_of next after in
    let whole = is ∙ (ap (λ (lines : List RecordedLine). front ++ one ∷ lines) s.2 ∙ sym (append_assoc front (one ∷ s.0) (s.1 ∷ []))) in
    kept.unbroken front one s.0 (same_from_push before (front ++ one ∷ s.0) line s.1 whole).0

pub keeps_more : (before : List RecordedLine) (line : RecordedLine) → KeepsRules before → first_broken_rule before line ≡ None → KeepsRules (before ++ line ∷ [])
keeps_more before line kept unbroken = record { unbroken = at_each before line kept unbroken }
