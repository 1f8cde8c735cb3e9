use Rattle.std.proofs.Common.{◌≡◌, ◌-◌, ℕ, List, [], ◌∷◌, ◌++◌, length, take, drop, codes, rules}
use Rattle.recordings.proofs.FrequentLines.{begins_with, got}
use Rattle.recordings.proofs.frequent_lines.split_action.Goals as goal

pub returns-in-103 : goal.returns-in-103
returns-in-103 c =
    let words = c.args.words.now in
    let rest : List ℕ = take (length words - 4) (drop 4 words) in
    let is : words ≡ codes "got" ++ 32 ∷ rest = begins_with words (codes "got" ++ 32 ∷ []) c.in-103.len_at_least (search rules) in
    got c.args.actor words rest c.in_ok-job.job c.in_ok-job.after.now c.requires is c.in_ok-job.ensures.0 c.in_ok-job.ensures.1
