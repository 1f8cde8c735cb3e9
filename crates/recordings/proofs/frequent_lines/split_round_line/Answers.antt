use Rattle.std.proofs.Common.{◌≡◌, ◌-◌, ℕ, List, [], ◌∷◌, ◌++◌, length, take, drop, codes, rules}
use Rattle.recordings.proofs.FrequentLines.{begins_with, round_begins, round_ends}
use Rattle.recordings.proofs.frequent_lines.split_round_line.Goals as goal

pub returns-in-98 : goal.returns-in-98
returns-in-98 c =
    let words = c.args.words.now in
    let rest : List ℕ = take (length words - 6) (drop 6 words) in
    let is : words ≡ codes "begin" ++ 32 ∷ rest = begins_with words (codes "begin" ++ 32 ∷ []) c.in-98.len_at_least (search rules) in
    round_begins c.args.round words rest c.in_ok-kind.kind.now c.in_ok-kind.after.now c.requires is c.in_ok-kind.ensures.0 c.in_ok-kind.ensures.1

pub returns-in-101 : goal.returns-in-101
returns-in-101 c =
    let words = c.args.words.now in
    let rest : List ℕ = take (length words - 4) (drop 4 words) in
    let is : words ≡ codes "end" ++ 10 ∷ rest = begins_with words (codes "end" ++ 10 ∷ []) c.in-101.len_at_least (search rules) in
    round_ends c.args.round words rest c.requires is
