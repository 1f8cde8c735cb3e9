-- The lines with the sizes of a fitted plan, next to the declared sizes. A fitted plan is the plan with the sizes that a search
-- found.
use Rattle.std.specs.Prelude.{◌≡◌, ℕ, ◌+◌, ◌==◌, not, ◌&&◌, Bool, if◌then◌else◌, List, [], ◌∷◌, ◌++◌, codes, decimal}
use Rattle.std.specs.List.{flat_map, sum_by, zip}
use Rattle.job_bodies.specs.Plan.{Pool, Plan}
use Rattle.job_bodies.specs.WellFormed.{has_no_max}
use Rattle.size_search.specs.Widened.{outline}

-- a size of the fitted plan, followed by the declared size if it differs, such as `2 (now 1)`
abbrev pub size_text : ℕ → ℕ → List ℕ
size_text declared fit = decimal fit ++ (if declared == fit then [] else codes " (now " ++ decimal declared ++ codes ")")

-- the maximum of the pool; `unbounded` if it has none
abbrev pub max_size : Pool → List ℕ
max_size pool = if has_no_max pool then codes "unbounded" else decimal pool.max

-- the maximum, followed by the declared one if it differs
abbrev pub max_text : Pool → Pool → List ℕ
max_text declared fit = max_size fit ++ (if declared.max == fit.max then [] else codes " (now " ++ max_size declared ++ codes ")")

-- the maximum has no effect: the queue is unbounded, and core threads never time out
abbrev pub has_useless_max : Pool → Bool
has_useless_max pool = pool.unbounded && not pool.core_timeout

-- the maximum, if it has an effect
abbrev pub max_part : Pool → Pool → List ℕ
max_part declared fit = if has_useless_max fit then [] else codes ", max " ++ max_text declared fit

abbrev pub queue_part : Pool → Pool → List ℕ
queue_part declared fit = if fit.unbounded then codes ", queue unbounded" else codes ", queue " ++ size_text declared.queue fit.queue

-- the line of a pool, such as `pool pages: core 1, max 1, queue 2 (now 1)`
abbrev pub pool_text : Pool → Pool → List ℕ
pool_text declared fit = codes "pool " ++ fit.name ++ codes ": core " ++ size_text declared.core fit.core ++ max_part declared fit ++ queue_part declared fit ++ 10 ∷ []

-- 1 if the size changes, and otherwise 0
abbrev pub changed : ℕ → ℕ → ℕ
changed declared fit = if declared == fit then 0 else 1

-- 1 if a size of the pool changes, and otherwise 0
abbrev pub any_changed : Pool → Pool → ℕ
any_changed declared fit = if declared.core == fit.core && declared.max == fit.max && declared.queue == fit.queue then 0 else 1

-- the number of sizes of the pool that change. If the maximum has no effect, 1 if any size changes and otherwise 0, because then
-- only the core size has an effect
abbrev pub pool_changes : Pool → Pool → ℕ
pool_changes declared fit =
    if has_useless_max fit then any_changed declared fit else changed declared.core fit.core + changed declared.max fit.max + changed declared.queue fit.queue

-- the pools of both plans in pairs: each declared pool with the fitted one
abbrev pub both_pools : Plan → Plan → List (Pool × Pool)
both_pools declared fit = zip declared.pools fit.pools

abbrev pub both_text : Pool × Pool → List ℕ
both_text both = pool_text both.0 both.1

abbrev pub both_changes : Pool × Pool → ℕ
both_changes both = pool_changes both.0 both.1

-- the number of sizes that change
abbrev pub changes : Plan → Plan → ℕ
changes declared fit = sum_by both_changes (both_pools declared fit)

-- a line for each pool, and then the number of sizes that change
abbrev pub sizes_text : Plan → Plan → List ℕ
sizes_text declared fit = flat_map both_text (both_pools declared fit) ++ (codes "changes " ++ (decimal (changes declared fit) ++ 10 ∷ []))

-- if a plan differs from the declared plan at most in its sizes, and no size changes, then it is the declared plan
abbrev pub UnchangedSizesAreTheDeclaredPlan : Type 0
UnchangedSizesAreTheDeclaredPlan = (declared fit : Plan) → outline fit ≡ outline declared → changes declared fit ≡ 0 → fit ≡ declared
