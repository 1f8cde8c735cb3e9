-- The text of a verdict.
use Rattle.std.specs.Prelude.{ℕ, Bool, if◌then◌else◌, List, [], ◌∷◌, ◌++◌, codes, Option, Some, None}
use Rattle.std.specs.List.{flat_map, enumerate_from}
use Rattle.std.specs.Fmt.{decimal}
use Rattle.job_bodies.specs.Plan.{Plan, pool_at}
use Rattle.cert_check.specs.declared.answer.BoundTotal.{BoundTotal}
use Rattle.cert_check.specs.declared.answer.PoolLine.{PoolLine}
use Rattle.cert_check.specs.Verdict.{Verdict}

-- the words for the kind of the vector that bounds the pool's queue
abbrev pub bound_words : Bool → List ℕ
bound_words lifetime = if lifetime then codes ": lifetime " else codes ": standing "

-- the limit of a total, or `unbounded` if there is none
abbrev pub limit_text : Option ℕ → List ℕ
limit_text None = codes "unbounded"
limit_text (Some limit) = decimal limit

-- the kind of a pool's bound, and its total with the limit
abbrev pub total_text : BoundTotal → List ℕ
total_text bound = bound_words bound.lifetime ++ decimal bound.total ++ codes " of " ++ limit_text bound.limit

-- the text of a pool's bound. For a pool without a bound, the text is `unbounded` if the queue is unbounded, and otherwise `may
-- reject`. The flag says whether the queue is unbounded.
abbrev pub bound_text : Bool → Option BoundTotal → List ℕ
bound_text unbounded None = if unbounded then codes ": unbounded" else codes ": may reject"
bound_text unbounded (Some bound) = total_text bound

-- the text of the blocked vector's total with its limit
abbrev pub blocked_text : PoolLine → List ℕ
blocked_text line = codes ", blocked " ++ decimal line.blocked ++ codes " of " ++ decimal line.limit ++ 10 ∷ []

-- the line of the pool with this name; the flag says whether its queue is unbounded
abbrev pub pool_line_text : List ℕ → Bool → PoolLine → List ℕ
pool_line_text name unbounded line = codes "pool " ++ name ++ bound_text unbounded line.bound ++ blocked_text line

abbrev pub pool_lines_text : Plan → List PoolLine → List ℕ
pool_lines_text plan lines = flat_map (λ entry. pool_line_text (pool_at plan entry.0).name (pool_at plan entry.0).unbounded entry.1) (enumerate_from 0 lines)

-- the text of the verdict: yes or no, and then the line of each pool
abbrev pub verdict_text : Plan → Verdict → List ℕ
verdict_text plan verdict = (if verdict.yes then codes "yes" else codes "no") ++ 10 ∷ pool_lines_text plan verdict.pools
