-- Properties of lines that are preserved by each further valid line.
use Rattle.std.proofs.Common.{List, [], ◌∷◌, ◌++◌, ap, sym, subst, ◌∙◌, append-nil, append_assoc}
use Rattle.recordings.specs.RecordingLine.{RecordedLine}
use Rattle.recordings.specs.PathsOfLines.{KeepsRules}

pub keeps_front : (front after : List RecordedLine) → KeepsRules (front ++ after) → KeepsRules front
keeps_front front after kept = record {
  unbroken = λ before line more is. kept.unbroken before line (more ++ after) (ap (λ (lines : List RecordedLine). lines ++ after) is ∙ append_assoc before (line ∷ more) after);
}

pub onward : (P : List RecordedLine → Type 0) → ((before : List RecordedLine) (line : RecordedLine) → KeepsRules (before ++ line ∷ []) → P before → P (before ++ line ∷ [])) → (before more : List RecordedLine) → KeepsRules (before ++ more) → P before → P (before ++ more)
onward P step before [] kept h = subst P (sym (append-nil before)) h
onward P step before (line ∷ more) kept h =
    let all : KeepsRules ((before ++ line ∷ []) ++ more) = subst KeepsRules (sym (append_assoc before (line ∷ []) more)) kept in
    subst P (append_assoc before (line ∷ []) more) (onward P step (before ++ line ∷ []) more all (step before line (keeps_front (before ++ line ∷ []) more all) h))
