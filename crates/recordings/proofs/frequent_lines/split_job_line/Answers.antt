use Rattle.std.proofs.Common.{◌≡◌, ◌-◌, ℕ, List, [], ◌∷◌, ◌++◌, length, take, drop, codes, rules}
use Rattle.recordings.proofs.FrequentLines.{begins_with, job_starts, job_ends}
use Rattle.recordings.proofs.frequent_lines.split_job_line.Goals as goal

pub returns-in-115 : goal.returns-in-115
returns-in-115 c =
    let words = c.args.words.now in
    let rest : List ℕ = take (length words - 6) (drop 6 words) in
    let is : words ≡ codes "start" ++ 10 ∷ rest = begins_with words (codes "start" ++ 10 ∷ []) c.in-115.len_at_least (search rules) in
    job_starts c.args.job words rest c.requires is

pub returns-in-101 : goal.returns-in-101
returns-in-101 c =
    let words = c.args.words.now in
    let rest : List ℕ = take (length words - 4) (drop 4 words) in
    let is : words ≡ codes "end" ++ 10 ∷ rest = begins_with words (codes "end" ++ 10 ∷ []) c.in-101.len_at_least (search rules) in
    job_ends c.args.job words rest c.requires is
