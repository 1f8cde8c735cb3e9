-- Lists that are built line by line, after one more line.
use Rattle.std.proofs.Common.{◌≡◌, ◌+◌, ◌||◌, Bool, cond, if◌then◌else◌, List, [], ◌∷◌, ◌++◌, map, count_by, refl, ap, sym, subst, ◌∙◌, append-nil, append_assoc, arith}
use Rattle.std.specs.List.{list_any, flat_map, filter_map, cons_option}
use Rattle.std.specs.Option.{option_to_list}
use Rattle.std.specs.Prelude.{Option, Some, None}
use Rattle.std.proofs.lemmas.List.{map-append}
use Rattle.std.proofs.lemmas.List.Sums.{sum_by_push}
use Rattle.recordings.specs.RecordingLine.{RecordedLine}
use Rattle.recordings.specs.LineSteps.{with_lines_before}

-- ---- induction over lines, from the first one
onward : (P : List RecordedLine → Type 0) → ((before : List RecordedLine) (line : RecordedLine) → P before → P (before ++ line ∷ [])) → (front rest : List RecordedLine) → P front → P (front ++ rest)
onward P more front [] h = subst P (sym (append-nil front)) h
onward P more front (line ∷ rest) h = subst P (append_assoc front (line ∷ []) rest) (onward P more (front ++ line ∷ []) rest (more front line h))

pub by_last : (P : List RecordedLine → Type 0) → P [] → ((before : List RecordedLine) (line : RecordedLine) → P before → P (before ++ line ∷ [])) → (lines : List RecordedLine) → P lines
by_last P none more lines = onward P more [] lines none

-- ---- one more element
pub any_more : {X : Type 0} (p : X → Bool) (before : List X) (one : X) → list_any p (before ++ one ∷ []) ≡ (list_any p before || p one)
any_more p [] one = grind arith
any_more p (first ∷ before) one = grind (arith, any_more p before one)

pub count_more : {X : Type 0} (p : X → Bool) (before : List X) (one : X) → count_by p (before ++ one ∷ []) ≡ count_by p before + (if p one then 1 else 0)
count_more p before one = sum_by_push (λ x. cond (p x) 1 0) before one

flat_map_more : {X Y : Type 0} (f : X → List Y) (before : List X) (one : X) → flat_map f (before ++ one ∷ []) ≡ flat_map f before ++ f one
flat_map_more f [] one = append-nil (f one)
flat_map_more f (first ∷ before) one = ap (λ ys. f first ++ ys) (flat_map_more f before one) ∙ sym (append_assoc (f first) (flat_map f before) (f one))

cons_none : {X : Type 0} (o : Option X) → cons_option o [] ≡ option_to_list o
cons_none None = refl
cons_none (Some x) = refl

cons_append : {X : Type 0} (o : Option X) (xs ys : List X) → cons_option o (xs ++ ys) ≡ cons_option o xs ++ ys
cons_append None xs ys = refl
cons_append (Some x) xs ys = refl

pub filter_map_more : {X Y : Type 0} (h : X → Option Y) (xs : List X) (x : X) → filter_map h (xs ++ x ∷ []) ≡ filter_map h xs ++ option_to_list (h x)
filter_map_more h [] x = cons_none (h x)
filter_map_more h (y ∷ ys) x = ap (cons_option (h y)) (filter_map_more h ys x) ∙ cons_append (h y) (filter_map h ys) (option_to_list (h x))

-- ---- each line, with those before it
pub lines_before_more : (before : List RecordedLine) (line : RecordedLine) → with_lines_before (before ++ line ∷ []) ≡ with_lines_before before ++ (before, line) ∷ []
lines_before_more [] line = refl
lines_before_more (first ∷ before) line =
    let after : List RecordedLine × RecordedLine → List RecordedLine × RecordedLine = λ p. (first ∷ p.0, p.1) in
    ap (λ (ps : List (List RecordedLine × RecordedLine)). ([], first) ∷ map after ps) (lines_before_more before line)
    ∙ ap (λ (ps : List (List RecordedLine × RecordedLine)). ([], first) ∷ ps) (map-append after (with_lines_before before) ((before, line) ∷ []))

pub all_more : {Y : Type 0} (f : List RecordedLine × RecordedLine → List Y) (before : List RecordedLine) (line : RecordedLine) → flat_map f (with_lines_before (before ++ line ∷ [])) ≡ flat_map f (with_lines_before before) ++ f (before, line)
all_more f before line = ap (flat_map f) (lines_before_more before line) ∙ flat_map_more f (with_lines_before before) (before, line)

pub any_line_more : (p : List RecordedLine × RecordedLine → Bool) (before : List RecordedLine) (line : RecordedLine) → list_any p (with_lines_before (before ++ line ∷ [])) ≡ (list_any p (with_lines_before before) || p (before, line))
any_line_more p before line = ap (list_any p) (lines_before_more before line) ∙ any_more p (with_lines_before before) (before, line)

-- ---- empty results
pub nothing_first : {X : Type 0} (xs ys : List X) → xs ++ ys ≡ [] → xs ≡ []
nothing_first [] ys h = refl
nothing_first (x ∷ xs) ys h = cc

pub nothing_last : {X : Type 0} (xs ys : List X) → xs ++ ys ≡ [] → ys ≡ []
nothing_last [] ys h = h
nothing_last (x ∷ xs) ys h = cc
