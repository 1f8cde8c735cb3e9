-- Faults and warnings are printed in a line each.
use Rattle.std.proofs.Common.{◌≡◌, ◌+◌, ℕ, Bool, true, false, cond, eqb, List, [], ◌∷◌, ◌++◌, length, flat_map, sym, ap, subst, refl, ◌∙◌, append_assoc, arith}
use Rattle.std.specs.Prelude.{codes, decimal, string_bytes}
use Rattle.std.proofs.lemmas.List.{append-nil, length-append}
use Rattle.std.proofs.lemmas.Grind.{flat_map-append}
use Rattle.std.proofs.lemmas.List.Elements.{All-nil, All-cons, All-append, All-head, All-tail}
use Rattle.plan_text.specs.declared.place.TextPlace.{TextPlace}
use Rattle.diagnostics.specs.declared.diagnostic.Diagnostic.{Diagnostic}
use Rattle.diagnostics.specs.declared.warnings.Warning.{Warning}
use Rattle.diagnostics.specs.Lines.{HasNoNewline, IsLines}
use Rattle.diagnostics.specs.Lints.{is_note}
use Rattle.diagnostics.specs.Diagnostic.{place_head, fault_line, diagnostic_line, diagnostic_lines, count_line, omitted_line, faults_text, level_text, warning_at, warning_line, warnings_text, HasSingleLine, WarnInSingleLines}
use Rattle.diagnostics.specs.PrintedLines.{line_count, EachFaultIsALine, EachWarningIsALine}
use Rattle.std.specs.List.{All}
use Rattle.diagnostics.proofs.Single.{Single, joined, checked, number}

-- ---- lines

no_lines : IsLines 0 []
no_lines = record { lines = []; number = refl; single = All-nil HasNoNewline; text_is = refl }

one : (line : List ℕ) → Single line → IsLines 1 (line ++ 10 ∷ [])
one line so = record {
  lines = line ∷ [];
  number = refl;
  single = All-cons HasNoNewline line [] so.each (All-nil HasNoNewline);
  text_is = sym (append-nil (line ++ 10 ∷ []));
}

both : (m n : ℕ) (xs ys : List ℕ) → IsLines m xs → IsLines n ys → IsLines (m + n) (xs ++ ys)
both m n xs ys front back = record {
  lines = front.lines ++ back.lines;
  number = length-append front.lines back.lines ∙ (ap (λ (k : ℕ). k + length back.lines) front.number ∙ ap (λ (k : ℕ). m + k) back.number);
  single = All-append HasNoNewline front.lines back.lines front.single back.single;
  text_is = ap (λ (t : List ℕ). t ++ ys) front.text_is ∙ (ap (λ (t : List ℕ). flat_map (λ (line : List ℕ). line ++ 10 ∷ []) front.lines ++ t) back.text_is
      ∙ sym (flat_map-append (λ (line : List ℕ). line ++ 10 ∷ []) front.lines back.lines));
}

-- the same text with its lines counted in another way
counts : (m n : ℕ) (text : List ℕ) → m ≡ n → IsLines m text → IsLines n text
counts m n text same so = subst (λ (k : ℕ). IsLines k text) same so

either_number : (b : Bool) (m n : ℕ) (xs ys : List ℕ) → IsLines m xs → IsLines n ys → IsLines (cond b m n) (cond b xs ys)
either_number true m n xs ys first second = first
either_number false m n xs ys first second = second

either_line : (b : Bool) (xs ys : List ℕ) → IsLines 1 xs → IsLines 1 ys → IsLines 1 (cond b xs ys)
either_line true xs ys first second = first
either_line false xs ys first second = second

-- the end of a text of several parts
end_of_three : (a b c end : List ℕ) → a ++ (b ++ (c ++ end)) ≡ (a ++ (b ++ c)) ++ end
end_of_three a b c end = simp append_assoc

end_of_four : (a b c d end : List ℕ) → a ++ (b ++ (c ++ (d ++ end))) ≡ (a ++ (b ++ (c ++ d))) ++ end
end_of_four a b c d end = simp append_assoc

end_of_five : (a b c d e end : List ℕ) → a ++ (b ++ (c ++ (d ++ (e ++ end)))) ≡ (a ++ (b ++ (c ++ (d ++ e)))) ++ end
end_of_five a b c d e end = simp append_assoc

-- ---- the lines of faults

head : (file : List ℕ) (place : TextPlace) → Single file → Single (place_head file place)
head file place so =
    let colon = checked (codes ":") refl in
    joined file _ so (joined (codes ":") _ colon (joined (decimal place.line) _ (number place.line)
    (joined (codes ":") _ colon (joined (decimal place.column) (codes ": ") (number place.column) (checked (codes ": ") refl)))))

fault : (file : List ℕ) (place : TextPlace) (what : List ℕ) (n : ℕ) → Single file → Single what → IsLines 1 (fault_line file place what n)
fault file place what n so words =
    let before = place_head file place in
    let after = codes " (fault " ++ (decimal n ++ codes ")") in
    let line = before ++ (what ++ after) in
    let whole : fault_line file place what n ≡ line ++ 10 ∷ [] = end_of_five before what (codes " (fault ") (decimal n) (codes ")") (10 ∷ []) in
    let after_so : Single after = joined (codes " (fault ") (decimal n ++ codes ")") (checked (codes " (fault ") refl) (joined (decimal n) (codes ")") (number n) (checked (codes ")") refl)) in
    subst (IsLines 1) (sym whole) (one line (joined before (what ++ after) (head file place so) (joined what after words after_so)))

each_fault : (file : List ℕ) (all : List Diagnostic) → Single file → All HasSingleLine all → IsLines (length all) (diagnostic_lines file all)
each_fault file [] so all = no_lines
each_fault file (d ∷ ds) so all =
    let first = fault file d.place (string_bytes d.what) d.fault.number so (record { each = All-head HasSingleLine d ds all }) in
    let others = each_fault file ds so (All-tail HasSingleLine d ds all) in
    counts (1 + length ds) (length (d ∷ ds)) (diagnostic_lines file (d ∷ ds)) (omega arith) (both 1 (length ds) (diagnostic_line file d) (diagnostic_lines file ds) first others)

count : (n : ℕ) (noun : List ℕ) → Single noun → IsLines 1 (count_line n noun)
count n noun so =
    let before = codes "... and " in
    let after = codes " more " in
    let line = before ++ (decimal n ++ (after ++ noun)) in
    let whole : count_line n noun ≡ line ++ 10 ∷ [] = end_of_four before (decimal n) after noun (10 ∷ []) in
    subst (IsLines 1) (sym whole) (one line (joined before (decimal n ++ (after ++ noun)) (checked before refl) (joined (decimal n) (after ++ noun) (number n) (joined after noun (checked after refl) so))))

omitted : (n : ℕ) → IsLines (cond (eqb n 0) 0 1) (omitted_line n)
omitted n =
    let single = count_line n (codes "fault") in
    let several = count_line n (codes "faults") in
    either_number (eqb n 0) 0 1 [] (cond (eqb n 1) single several) no_lines
    (either_line (eqb n 1) single several (count n (codes "fault") (checked (codes "fault") refl)) (count n (codes "faults") (checked (codes "faults") refl)))

pub faults_in_lines : EachFaultIsALine
faults_in_lines file faults named single =
    let so : Single file = record { each = named } in
    let d = faults.first in
    let others = faults.others.items in
    let left = cond (eqb faults.omitted 0) 0 1 in
    let first = fault file d.place (string_bytes d.what) d.fault.number so (record { each = single.first }) in
    let rest = both (length others) left (diagnostic_lines file others) (omitted_line faults.omitted) (each_fault file others so single.others) (omitted faults.omitted) in
    counts (1 + (length others + left)) (line_count faults) (faults_text file faults) (omega arith)
    (both 1 (length others + left) (diagnostic_line file d) (diagnostic_lines file others ++ omitted_line faults.omitted) first rest)

-- ---- the lines of warnings

level : (note : Bool) → Single (level_text note)
level true = checked (codes "note: ") refl
level false = checked (codes "warning: ") refl

warning : (file : List ℕ) (place : TextPlace) (note : Bool) (what : List ℕ) → Single file → Single what → IsLines 1 (warning_at file place note what)
warning file place note what so words =
    let before = place_head file place in
    let line = before ++ (level_text note ++ what) in
    let whole : warning_at file place note what ≡ line ++ 10 ∷ [] = end_of_three before (level_text note) what (10 ∷ []) in
    subst (IsLines 1) (sym whole) (one line (joined before (level_text note ++ what) (head file place so) (joined (level_text note) what (level note) words)))

each_warning : (file : List ℕ) (all : List Warning) → Single file → WarnInSingleLines all → IsLines (length all) (warnings_text file all)
each_warning file [] so all = no_lines
each_warning file (w ∷ ws) so all =
    let first = warning file w.place (is_note w.lint) (string_bytes w.what) so (record { each = All-head (λ (x : Warning). HasNoNewline (string_bytes x.what)) w ws all }) in
    let others = each_warning file ws so (All-tail (λ (x : Warning). HasNoNewline (string_bytes x.what)) w ws all) in
    counts (1 + length ws) (length (w ∷ ws)) (warnings_text file (w ∷ ws)) (omega arith) (both 1 (length ws) (warning_line file w) (warnings_text file ws) first others)

pub warnings_in_lines : EachWarningIsALine
warnings_in_lines file warnings named single = each_warning file warnings (record { each = named }) single
