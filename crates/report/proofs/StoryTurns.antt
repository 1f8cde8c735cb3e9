-- The turns and the lines of a story, one step or turn after another.
use Rattle.std.proofs.Common.{◌≡◌, ℕ, ◌-◌, ◌<◌, ◌≤◌, Bool, true, false, if◌then◌else◌, List, ◌∷◌, ◌++◌, length, map, take, drop, slice_get, ap, ◌∙◌, arith}
use Rattle.std.specs.Prelude.{bytes_eq, flat_map, nat_le}
use Rattle.std.proofs.lemmas.Bool.{lt-leb, le-leb}
use Rattle.std.proofs.lemmas.List.{length-map, take-map, drop-map}
use Rattle.job_bodies.specs.Plan.{Plan}
use Rattle.report.specs.declared.event_steps.EventStep.{EventStep}
use Rattle.report.specs.declared.story_lines.Line.{Line as CodeLine}
use Rattle.report.specs.Story.{Turn, Line, is_continued, new_turn, longer_turn, turns_from, new_line, longer_line, lines_from, line_text, lines_text, end_of, events_left_out, omitted_text}
use Rattle.report.specs.StorySeen.{line_seen, shortened_seen}

-- the step continues the turn
pub turn_continued : (plan : Plan) (turn : Turn) (step : EventStep) (rest : List EventStep) → is_continued plan turn step ≡ true
    → turns_from plan turn (step ∷ rest) ≡ turns_from plan (longer_turn plan turn step) rest
turn_continued plan turn step rest e =
    ap (λ (b : Bool). if b then turns_from plan (longer_turn plan turn step) rest else turn ∷ turns_from plan (new_turn plan turn.end step) rest) e

-- the step begins another turn
pub turn_ended : (plan : Plan) (turn : Turn) (step : EventStep) (rest : List EventStep) → is_continued plan turn step ≡ false
    → turns_from plan turn (step ∷ rest) ≡ turn ∷ turns_from plan (new_turn plan turn.end step) rest
turn_ended plan turn step rest e =
    ap (λ (b : Bool). if b then turns_from plan (longer_turn plan turn step) rest else turn ∷ turns_from plan (new_turn plan turn.end step) rest) e

-- the turn continues the line
pub line_continued : (line : Line) (turn : Turn) (rest : List Turn) → bytes_eq line.text turn.text ≡ true → lines_from line (turn ∷ rest) ≡ lines_from (longer_line line turn) rest
line_continued line turn rest e = ap (λ (b : Bool). if b then lines_from (longer_line line turn) rest else line ∷ lines_from (new_line turn) rest) e

-- the turn begins another line
pub line_ended : (line : Line) (turn : Turn) (rest : List Turn) → bytes_eq line.text turn.text ≡ false → lines_from line (turn ∷ rest) ≡ line ∷ lines_from (new_line turn) rest
line_ended line turn rest e = ap (λ (b : Bool). if b then lines_from (longer_line line turn) rest else line ∷ lines_from (new_line turn) rest) e

-- more than 20 lines are shortened
pub lines_shortened : (all : List CodeLine) → 20 < length all → lines_text (map line_seen all) ≡ shortened_seen all
lines_shortened all many =
    let ls = map line_seen all in
    let n : length ls ≡ length all = length-map all line_seen in
    let no : nat_le (length ls) 20 ≡ false = lt-leb (length ls) 20 (omega (arith, n)) in
    ap (λ (b : Bool). if b then flat_map line_text ls else (flat_map line_text (take 9 ls) ++ omitted_text ls) ++ flat_map line_text (drop (length ls - 10) ls)) no
    ∙ ap (λ (front : List Line). (flat_map line_text front ++ omitted_text ls) ++ flat_map line_text (drop (length ls - 10) ls)) (take-map line_seen 9 all)
    ∙ ap (λ (m : ℕ). (flat_map line_text (map line_seen (take 9 all)) ++ events_left_out (end_of (slice_get ls (m - 11)) - end_of (slice_get ls 8))) ++ flat_map line_text (drop (m - 10) ls)) n
    ∙ ap (λ (back : List Line). (flat_map line_text (map line_seen (take 9 all)) ++ events_left_out (end_of (slice_get ls (length all - 11)) - end_of (slice_get ls 8))) ++ flat_map line_text back)
    (drop-map line_seen (length all - 10) all)

-- at most 20 lines are not
pub lines_whole : (all : List CodeLine) → length all ≤ 20 → lines_text (map line_seen all) ≡ flat_map line_text (map line_seen all)
lines_whole all few =
    let ls = map line_seen all in
    let n : length ls ≡ length all = length-map all line_seen in
    let yes : nat_le (length ls) 20 ≡ true = le-leb (length ls) 20 (omega (arith, n, few)) in
    ap (λ (b : Bool). if b then flat_map line_text ls else (flat_map line_text (take 9 ls) ++ omitted_text ls) ++ flat_map line_text (drop (length ls - 10) ls)) yes
