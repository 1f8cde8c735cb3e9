-- Proofs that a text parses exactly as the lines whose canonical text it is, with or without the newline after the last line.
use Rattle.std.proofs.Common.{◌≡◌, ◌⊎◌, inl, inr, ⊎_elim, ℕ, ◌+◌, ◌<◌, true, not, ◌==◌, nat_lt, List, [], ◌∷◌, ◌++◌, length, map, Result, Ok, Err, Option, Some, None, refl, sym, ap, ap₂, subst, ◌∙◌, arith}
use Rattle.std.specs.List.{list_all, join_with_byte}
use Rattle.std.proofs.lemmas.Bool.{and_parts, and_from}
use Rattle.std.proofs.lemmas.Bool.Decides.{nat_tests}
use Rattle.std.proofs.lemmas.List.{length_push}
use Rattle.std.proofs.lemmas.List.Splits.{join_with_byte-slice_split, length-slice_split}
use Rattle.support.specs.Reading.{◌>>=◌, ok_or, read_each}
use Rattle.job_bodies.specs.Plan.{Plan, Pool, pool_names}
use Rattle.job_bodies.specs.WellFormed.{is_name_byte, is_valid_name, is_valid_pool, has_valid_sizes, are_distinct}
use Rattle.support.specs.Pieces.{is_newline, without_last_newline, lines_of}
use Rattle.interleaving.specs.EventLine.{Line, line_of, line_at, event_lines}
use Rattle.interleaving.specs.LineText.{line_text, lines_text, is_valid_line}
use Rattle.interleaving.specs.LineLaws.{EventLinesAreCanonical}
use Rattle.support.proofs.LastNewline.{last_newline, cut_off, stays, lines_of_some}
use Rattle.support.proofs.Splits.{has_no, cut_at, cut_joined, joined_before, flat_map-map, is_piece, joined_ends}
use Rattle.interleaving.proofs.WrittenLines.{read_line_is_text, text_reads_as_line, has_plain_name, line_on_one_line}

-- ---- the lines in order
then_ok : {A B F : Type 0} (r : Result A F) (f : A → Result B F) (y : B) → (r >>= f) ≡ Ok y → (x : A) × (r ≡ Ok x) × (f x ≡ Ok y)
then_ok (Ok x) f y e = (x, refl, e)
then_ok (Err fault) f y e = absurd cc

some_of_ok : {A F : Type 0} (o : Option A) (fault : F) (x : A) → ok_or o fault ≡ Ok x → o ≡ Some x
some_of_ok (Some y) fault x e = let same : y ≡ x = cc in ap (λ (z : _). Some z) same
some_of_ok None fault x e = absurd cc

-- the texts are those of these lines, which are valid
abbrev AreLines : Plan → List (List ℕ) → List Line → Type 0
AreLines plan texts lines = (list_all (is_valid_line plan) lines ≡ true) × (texts ≡ map (line_text plan) lines)

read_texts_are_lines : (plan : Plan) (i : ℕ) (texts : List (List ℕ)) (lines : List Line) → read_each (line_at plan) i texts ≡ Ok lines → AreLines plan texts lines
read_texts_are_lines plan i [] [] read = (refl, refl)
read_texts_are_lines plan i [] (line ∷ lines) read = absurd cc
read_texts_are_lines plan i (text ∷ texts) lines read =
    let first = then_ok (line_at plan i text) _ lines read in
    let others = then_ok (read_each (line_at plan) (i + 1) texts) _ lines first.2 in
    let one = read_line_is_text plan text first.0 (some_of_ok (line_of plan text) (i + 1) first.0 first.1) in
    let more = read_texts_are_lines plan (i + 1) texts others.0 others.1 in
    let whole : first.0 ∷ others.0 ≡ lines = cc (others.2) in
    subst (λ (ls : List Line). AreLines plan (text ∷ texts) ls) whole (and_from _ _ one.0 more.0, ap₂ (λ (x : List ℕ) (xs : List (List ℕ)). x ∷ xs) one.1 more.1)

texts_read_as_lines : (plan : Plan) (i : ℕ) (lines : List Line) → are_distinct (pool_names plan) ≡ true → list_all (is_valid_line plan) lines ≡ true
    → read_each (line_at plan) i (map (line_text plan) lines) ≡ Ok lines
texts_read_as_lines plan i [] distinct valid = refl
texts_read_as_lines plan i (line ∷ lines) distinct valid =
    let parts = and_parts (is_valid_line plan line) (list_all (is_valid_line plan) lines) valid in
    rw (text_reads_as_line plan line distinct parts.0, texts_read_as_lines plan (i + 1) lines distinct parts.1) refl

pieces_of_lines : (plan : Plan) (lines : List Line) → list_all has_plain_name plan.pools ≡ true → list_all (is_valid_line plan) lines ≡ true
    → list_all (is_piece 10) (map (line_text plan) lines) ≡ true
pieces_of_lines plan [] names valid = refl
pieces_of_lines plan (line ∷ lines) names valid =
    let parts = and_parts (is_valid_line plan line) (list_all (is_valid_line plan) lines) valid in
    and_from _ _ (line_on_one_line plan line names parts.0) (pieces_of_lines plan lines names parts.1)

whole_pieces : (pieces : List (List ℕ)) → list_all (is_piece 10) pieces ≡ true → list_all (has_no 10) pieces ≡ true
whole_pieces [] good = refl
whole_pieces (piece ∷ pieces) good =
    let parts = and_parts (is_piece 10 piece) (list_all (is_piece 10) pieces) good in
    and_from _ _ (and_parts (nat_lt 0 (length piece)) (has_no 10 piece) parts.0).1 (whole_pieces pieces parts.1)

-- ---- the newline after the last line
-- the text of the lines, without the newline after the last line
abbrev joined : Plan → List Line → List ℕ
joined plan lines = join_with_byte 10 (map (line_text plan) lines)

joined_is : (plan : Plan) (line : Line) (lines : List Line) → joined plan (line ∷ lines) ++ 10 ∷ [] ≡ lines_text plan (line ∷ lines)
joined_is plan line lines = joined_before 10 (line_text plan line) (map (line_text plan) lines) ∙ flat_map-map (λ x. x ++ 10 ∷ []) (line_text plan) (line ∷ lines)

same_fronts : (xs ys : List ℕ) (c : ℕ) → xs ++ c ∷ [] ≡ ys ++ c ∷ [] → xs ≡ ys
same_fronts [] [] c e = refl
same_fronts [] (y ∷ ys) c e = absurd (omega (arith, length_push ys c, ap (λ (l : List ℕ). length l) e))
same_fronts (x ∷ xs) [] c e = absurd (omega (arith, length_push xs c, ap (λ (l : List ℕ). length l) e))
same_fronts (x ∷ xs) (y ∷ ys) c e =
    let head : x ≡ y = cc in
    let tail : xs ++ c ∷ [] ≡ ys ++ c ∷ [] = cc in
    ap₂ (λ (z : ℕ) (zs : List ℕ). z ∷ zs) head (same_fronts xs ys c tail)

-- ---- whole texts
-- a text that is not empty and parses as these lines is their canonical text, and the lines are valid
read_lines_are_text : (plan : Plan) (text : List ℕ) (lines : List Line) → 0 < length text → read_each (line_at plan) 0 (lines_of text) ≡ Ok lines
    → (list_all (is_valid_line plan) lines ≡ true) × ((text ≡ lines_text plan lines) ⊎ (text ++ 10 ∷ [] ≡ lines_text plan lines))
read_lines_are_text plan text lines some read = by_lines lines (read_texts_are_lines plan 0 (lines_of text) lines read)
  where
    by_lines : (lines : List Line) → AreLines plan (lines_of text) lines
        → (list_all (is_valid_line plan) lines ≡ true) × ((text ≡ lines_text plan lines) ⊎ (text ++ 10 ∷ [] ≡ lines_text plan lines))
    by_lines [] found = absurd (omega (arith, length-slice_split is_newline (without_last_newline text), ap (λ (ls : List (List ℕ)). length ls) (sym (lines_of_some text some) ∙ found.1)))
    by_lines (line ∷ lines) found =
        let same : without_last_newline text ≡ joined plan (line ∷ lines) =
        sym (join_with_byte-slice_split 10 (without_last_newline text)) ∙ ap (join_with_byte 10) (sym (lines_of_some text some) ∙ found.1)
        in
        let written : without_last_newline text ++ 10 ∷ [] ≡ lines_text plan (line ∷ lines) = ap (λ (t : List ℕ). t ++ 10 ∷ []) same ∙ joined_is plan line lines in
        (found.0, ⊎_elim (λ ended. inl (ended ∙ written)) (λ open_end. inr (ap (λ (t : List ℕ). t ++ 10 ∷ []) open_end ∙ written)) (last_newline text some))

texts_read : (plan : Plan) (text : List ℕ) (lines : List Line) → event_lines plan text ≡ Ok lines
    → (list_all (is_valid_line plan) lines ≡ true) × ((text ≡ lines_text plan lines) ⊎ (text ++ 10 ∷ [] ≡ lines_text plan lines))
unfolding event_lines lines_of
texts_read plan [] [] read = (refl, inl refl)
texts_read plan [] (line ∷ lines) read = absurd cc
texts_read plan (b ∷ text) lines read = read_lines_are_text plan (b ∷ text) lines (omega arith) read

-- a text that is not empty parses as these valid lines if it is their joined text, apart from a newline at its end
read_back : (plan : Plan) (text : List ℕ) (line : Line) (lines : List Line) → are_distinct (pool_names plan) ≡ true → list_all has_plain_name plan.pools ≡ true → list_all (is_valid_line plan) (line ∷ lines) ≡ true
    → 0 < length text → without_last_newline text ≡ joined plan (line ∷ lines) → event_lines plan text ≡ Ok (line ∷ lines)
unfolding event_lines
read_back plan text line lines distinct names valid some same =
    let cut : lines_of text ≡ map (line_text plan) (line ∷ lines) =
    lines_of_some text some ∙ ap (cut_at 10) same
    ∙ cut_joined 10 (line_text plan line) (map (line_text plan) lines) (whole_pieces (map (line_text plan) (line ∷ lines)) (pieces_of_lines plan (line ∷ lines) names valid))
    in
    ap (λ (texts : List (List ℕ)). read_each (line_at plan) 0 texts) cut ∙ texts_read_as_lines plan 0 (line ∷ lines) distinct valid

texts_written : (plan : Plan) (text : List ℕ) (lines : List Line) → are_distinct (pool_names plan) ≡ true → list_all has_plain_name plan.pools ≡ true → list_all (is_valid_line plan) lines ≡ true
    → (text ≡ lines_text plan lines) ⊎ (text ++ 10 ∷ [] ≡ lines_text plan lines) → event_lines plan text ≡ Ok lines
unfolding event_lines lines_of
texts_written plan text [] distinct names valid (inl same) = ap (event_lines plan) same
texts_written plan text [] distinct names valid (inr same) = absurd (omega (arith, length_push text 10, ap (λ (l : List ℕ). length l) same))
texts_written plan text (line ∷ lines) distinct names valid (inl same) =
    let whole : text ≡ joined plan (line ∷ lines) ++ 10 ∷ [] = same ∙ sym (joined_is plan line lines) in
    read_back plan text line lines distinct names valid (omega (arith, length_push (joined plan (line ∷ lines)) 10, ap (λ (l : List ℕ). length l) whole)) (ap without_last_newline whole ∙ cut_off (joined plan (line ∷ lines)))
texts_written plan text (line ∷ lines) distinct names valid (inr same) =
    let whole : text ≡ joined plan (line ∷ lines) = same_fronts text (joined plan (line ∷ lines)) 10 (same ∙ sym (joined_is plan line lines)) in
    let ends = joined_ends 10 (line_text plan line) (map (line_text plan) lines) (pieces_of_lines plan (line ∷ lines) names valid) in
    read_back plan text line lines distinct names valid (omega (arith, ends.0, ap (λ (l : List ℕ). length l) whole)) (ap without_last_newline whole ∙ stays (joined plan (line ∷ lines)) ends.1)

-- ---- the names of pools have no newline
name_byte : (b : ℕ) → is_name_byte b ≡ true → not (b == 10) ≡ true
name_byte b h = grind (arith, nat_tests)

name_bytes : (name : List ℕ) → list_all is_name_byte name ≡ true → has_no 10 name ≡ true
name_bytes [] h = refl
name_bytes (b ∷ name) h =
    let parts = and_parts (is_name_byte b) (list_all is_name_byte name) h in
    and_from _ _ (name_byte b parts.0) (name_bytes name parts.1)

names_on_one_line : (pools : List Pool) → list_all is_valid_pool pools ≡ true → list_all has_plain_name pools ≡ true
names_on_one_line [] valid = refl
names_on_one_line (pool ∷ pools) valid =
    let parts = and_parts (is_valid_pool pool) (list_all is_valid_pool pools) valid in
    let name = and_parts (is_valid_name pool.name) (has_valid_sizes pool) parts.0 in
    and_from _ _ (name_bytes pool.name (and_parts _ (list_all is_name_byte pool.name) name.0).1) (names_on_one_line pools parts.1)

pub canonical : EventLinesAreCanonical
canonical plan text lines well = (texts_read plan text lines, λ written. texts_written plan text lines well.pool_names (names_on_one_line plan.pools well.pools) written.0 written.1)
