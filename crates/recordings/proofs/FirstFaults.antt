-- The first bad line of a list, found line by line.
use Rattle.std.proofs.Common.{◌≡◌, ℕ, zero, suc, ◌+◌, ◌<◌, ◌≤◌, List, [], ◌∷◌, ◌++◌, length, drop, slice_get, Option, Some, None, refl, ap, sym, add-one, length-drop, arith}
use Rattle.std.specs.Option.{option_and_then, option_to_list}
use Rattle.recordings.specs.RecordingLine.{RecordedLine}
use Rattle.std.proofs.lemmas.Option.{slice_get_past}
use Rattle.recordings.specs.declared.fault.FaultReason.TheVariants.{LineRule}
use Rattle.recordings.specs.declared.rule.LineRule.TheVariants.{Frame}
use Rattle.recordings.specs.Faults.{reason_for, lines_before, reason_at}

-- the first of the lines after the first n lines is the line at index n
there : (lines rest : List (Option RecordedLine)) (n : ℕ) (line : Option RecordedLine) → drop n lines ≡ line ∷ rest → slice_get lines n ≡ Some line
there [] rest zero line h = grind (arith, h)
there [] rest (suc n) line h = grind (arith, h)
there (first ∷ lines) rest zero line h = grind (arith, h)
there (first ∷ lines) rest (suc n) line h = there lines rest n line h

rest_there : (lines rest : List (Option RecordedLine)) (n : ℕ) (line : Option RecordedLine) → drop n lines ≡ line ∷ rest → drop (suc n) lines ≡ rest
rest_there [] rest zero line h = grind (arith, h)
rest_there [] rest (suc n) line h = grind (arith, h)
rest_there (first ∷ lines) rest zero line h = grind (arith, h)
rest_there (first ∷ lines) rest (suc n) line h = rest_there lines rest n line h

within_there : (lines rest : List (Option RecordedLine)) (n : ℕ) (line : Option RecordedLine) → drop n lines ≡ line ∷ rest → suc n ≤ length lines
within_there [] rest zero line h = grind (arith, h)
within_there [] rest (suc n) line h = grind (arith, h)
within_there (first ∷ lines) rest zero line h = omega arith
within_there (first ∷ lines) rest (suc n) line h = omega (arith, within_there lines rest n line h)

before_there : (lines rest : List (Option RecordedLine)) (n : ℕ) (line : Option RecordedLine) → drop n lines ≡ line ∷ rest → lines_before lines (suc n) ≡ lines_before lines n ++ option_to_list line
before_there [] rest zero line h = grind (arith, h)
before_there [] rest (suc n) line h = grind (arith, h)
before_there (None ∷ lines) rest zero line h = grind (arith, h)
before_there (Some first ∷ lines) rest zero line h = grind (arith, h)
before_there (None ∷ lines) rest (suc n) line h = before_there lines rest n line h
before_there (Some first ∷ lines) rest (suc n) line h = ap (λ more. first ∷ more) (before_there lines rest n line h)

reason_there : (lines : List (Option RecordedLine)) (n : ℕ) (line : Option RecordedLine) → slice_get lines n ≡ Some line → reason_at lines n ≡ reason_for (lines_before lines n) line
unfolding reason_at
reason_there [] n line h = grind (arith, h)
reason_there (first ∷ lines) n line h = ap (option_and_then (reason_for (lines_before (first ∷ lines) n))) h

-- ---- the line that a loop reads next
pub there_next : (lines rest : List (Option RecordedLine)) (n : ℕ) (line : Option RecordedLine) → drop n lines ≡ line ∷ rest → slice_get lines n ≡ Some line
there_next lines rest n line h = there lines rest n line h

pub rest_next : (lines rest : List (Option RecordedLine)) (n : ℕ) (line : Option RecordedLine) → drop n lines ≡ line ∷ rest → rest ≡ drop (n + 1) lines
rest_next lines rest n line h = rw add-one (sym (rest_there lines rest n line h))

pub within_next : (lines rest : List (Option RecordedLine)) (n : ℕ) (line : Option RecordedLine) → drop n lines ≡ line ∷ rest → n + 1 ≤ length lines
within_next lines rest n line h = omega (arith, within_there lines rest n line h)

pub before_next : (lines rest : List (Option RecordedLine)) (n : ℕ) (line : Option RecordedLine) → drop n lines ≡ line ∷ rest → lines_before lines (n + 1) ≡ lines_before lines n ++ option_to_list line
before_next lines rest n line h = rw add-one (before_there lines rest n line h)

pub reason_next : (lines rest : List (Option RecordedLine)) (n : ℕ) (line : Option RecordedLine) → drop n lines ≡ line ∷ rest → reason_at lines n ≡ reason_for (lines_before lines n) line
reason_next lines rest n line h = reason_there lines n line (there lines rest n line h)

-- ---- at the end of the lines
pub none_past : (lines : List (Option RecordedLine)) (n i : ℕ) → drop n lines ≡ [] → 0 < n → n ≤ length lines → n ≤ i → reason_at lines i ≡ None
unfolding reason_at
none_past [] n i rest some within past = absurd (omega arith)
none_past (first ∷ lines) n i rest some within past =
    let gone : length (drop n (first ∷ lines)) ≡ 0 = ap length rest in
    let beyond : length (first ∷ lines) ≤ i = omega (arith, gone, length-drop n (first ∷ lines)) in
    ap (option_and_then (reason_for (lines_before (first ∷ lines) i))) (slice_get_past (first ∷ lines) i beyond)

-- if the text has no line, the fault is that line 1 breaks O1
pub first_missing : (lines : List (Option RecordedLine)) → lines ≡ [] → reason_at lines 0 ≡ Some (LineRule Frame)
unfolding reason_at
first_missing [] none = refl
first_missing (first ∷ lines) none = grind (arith, none)
