-- A property of the lines read so far, in a loop over all lines.
use Rattle.std.proofs.Common.{◌≡◌, List, [], ◌∷◌, ◌++◌, Option, Some, None, refl, ap, sym, subst, ◌∙◌, arith}
use Rattle.std.specs.List.{Contains, filter_map}
use Rattle.std.proofs.lemmas.List.{append-nil, append_assoc}
use Rattle.std.proofs.lemmas.List.Elements.{Contains-append_right}
use Rattle.recordings.specs.RecordingLine.{RecordedLine}

-- The well-formed lines, in order.
abbrev pub well_formed : List (Option RecordedLine) → List RecordedLine
well_formed lines = filter_map (λ line. line) lines

-- `P` holds for the well-formed lines before `rest`.
pub record LoopState (P : List RecordedLine → Type 0) (all : List RecordedLine) (rest : List (Option RecordedLine)) : Type 0 where
  pub before : List RecordedLine
  pub lines : all ≡ before ++ well_formed rest
  pub holds : P before

pub at_first : (P : List RecordedLine → Type 0) (lines : List (Option RecordedLine)) → P [] → LoopState P (well_formed lines) lines
at_first P lines p = record { before = []; lines = refl; holds = p }

pub next_good : (P Q : List RecordedLine → Type 0) (all : List RecordedLine) (old new : List (Option RecordedLine)) (line : RecordedLine) → old ≡ Some line ∷ new → (r : LoopState P all old) → Q (r.before ++ line ∷ []) → LoopState Q all new
next_good P Q all old new line there r q = record {
  before = r.before ++ line ∷ [];
  lines = r.lines ∙ ap (λ rest. r.before ++ well_formed rest) there ∙ sym (append_assoc r.before (line ∷ []) (well_formed new));
  holds = q;
}

-- The next line is one of all lines.
pub is_there : (P : List RecordedLine → Type 0) (all : List RecordedLine) (old new : List (Option RecordedLine)) (line : RecordedLine) → old ≡ Some line ∷ new → LoopState P all old → Contains all line
is_there P all old new line there r =
    subst (λ lines. Contains lines line) (sym (r.lines ∙ ap (λ rest. r.before ++ well_formed rest) there)) (Contains-append_right r.before (line ∷ well_formed new) line (0, omega arith, refl))

pub next_bad : (P : List RecordedLine → Type 0) (all : List RecordedLine) (old new : List (Option RecordedLine)) → old ≡ None ∷ new → LoopState P all old → LoopState P all new
next_bad P all old new there r = record { before = r.before; lines = r.lines ∙ ap (λ rest. r.before ++ well_formed rest) there; holds = r.holds }

pub at_last : (P : List RecordedLine → Type 0) (all : List RecordedLine) (rest : List (Option RecordedLine)) → rest ≡ [] → LoopState P all rest → P all
at_last P all rest none r = subst P (sym (r.lines ∙ ap (λ rest. r.before ++ well_formed rest) none ∙ append-nil r.before)) r.holds
