-- Proofs that the parser returns the lines of the text in order.
use Rattle.std.proofs.Common.{◌≡◌, ℕ, zero, suc, ◌+◌, ◌<◌, ◌≤◌, List, [], ◌∷◌, length, map, Option, Some, None, refl, sym, ap, ap₂, ◌∙◌, arith}
use Rattle.std.proofs.lemmas.List.{length-map, nil_from_length}
use Rattle.support.specs.Reading.{read_each}
use Rattle.job_bodies.specs.Plan.{Plan}
use Rattle.support.specs.Pieces.{lines_of, first_line, after_line}
use Rattle.interleaving.specs.EventLine.{Line, line_of, line_at, event_lines, split_event_line, lines_read, all_from}
use Rattle.support.proofs.FirstPieces.{no_lines, lines_first, after_shorter}
use Rattle.support.proofs.Partial.{map_some, map_none}

-- ---- one line
lines_more : (plan : Plan) (text rest : List ℕ) (line : Option Line) → 0 < length text → line_of plan (first_line text) ≡ line → after_line text ≡ rest → lines_read plan text ≡ line ∷ lines_read plan rest
lines_more plan text rest line some says behind =
    ap (map (line_of plan)) (lines_first text some) ∙ ap₂ (λ (l : Option Line) (t : List ℕ). l ∷ lines_read plan t) says behind

pub next_good : (plan : Plan) (text rest : List ℕ) (line : Line) → 0 < length text → Some (line, rest) ≡ split_event_line plan text → lines_read plan text ≡ Some line ∷ lines_read plan rest
next_good plan text rest line some read =
    let found = map_some (λ line. (line, after_line text)) (line_of plan (first_line text)) (line, rest) (sym read) in
    lines_more plan text rest (Some line) some
    (found.1 ∙ ap (λ (x : Line × List ℕ). Some x.0) found.2) (ap (λ (x : Line × List ℕ). x.1) found.2)

pub next_bad : (plan : Plan) (text rest : List ℕ) → 0 < length text → None ≡ split_event_line plan text → rest ≡ after_line text → lines_read plan text ≡ None ∷ lines_read plan rest
next_bad plan text rest some read behind =
    lines_more plan text rest None some (map_none (λ line. (line, after_line text)) (line_of plan (first_line text)) read) (sym behind)

pub none_left : (plan : Plan) (text : List ℕ) → length text ≡ 0 → lines_read plan text ≡ []
none_left plan text none = ap (lines_read plan) (nil_from_length text none) ∙ ap (map (line_of plan)) no_lines

-- ---- all lines
-- a text has at most as many lines as bytes
few_within : (most : ℕ) (text : List ℕ) → length text ≤ most → length (lines_of text) ≤ length text
few_within most [] within = omega (arith, ap (λ (ls : List (List ℕ)). length ls) no_lines)
few_within zero (b ∷ text) within = absurd (omega arith)
few_within (suc most) (b ∷ text) within =
    let shorter = after_shorter (b ∷ text) (omega arith) in
    omega (arith, shorter, few_within most (after_line (b ∷ text)) (omega (arith, shorter)), ap (λ (ls : List (List ℕ)). length ls) (lines_first (b ∷ text) (omega arith)))

pub lines_few : (plan : Plan) (text : List ℕ) → length (lines_read plan text) ≤ length text
lines_few plan text = omega (arith, length-map (lines_of text) (line_of plan), few_within (length text) text (omega arith))

-- the lines that the parser returns one at a time are those of the whole text
each_read : (plan : Plan) (i : ℕ) (texts : List (List ℕ)) → all_from i (map (line_of plan) texts) ≡ read_each (line_at plan) i texts
each_read plan i [] = refl
each_read plan i (text ∷ texts) = rw (each_read plan (i + 1) texts) refl

pub all_read : (plan : Plan) (text : List ℕ) → all_from 0 (lines_read plan text) ≡ event_lines plan text
unfolding event_lines
all_read plan text = each_read plan 0 (lines_of text)
