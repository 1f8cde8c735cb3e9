-- The number of jobs of a pool that are at a counted get or before one. From it follows the theorem that no set of unfinished
-- jobs waits only for its own members.
use Rattle.std.specs.Prelude.{◌<◌, ◌≤◌, ◌==◌, ◌+◌, ◌-◌, ◌&&◌, ◌||◌, ℕ, zero, suc, Bool, false, List, length, count_by}
use Rattle.job_bodies.specs.Plan.{Plan, pool_at, class_at, least_threads}
use Rattle.job_bodies.specs.WellFormed.{IsWellFormed}
use Rattle.weights.specs.Row.{AllHold}
use Rattle.weights.specs.Vector.{Vector, total}
use Rattle.weights.specs.Blocked.{blocked_rows}
use Rattle.weights.specs.Ranks.{Ranks, is_counted, rank_rows}
use Rattle.pool_machine.specs.State.{Stage, CreatedJob, State, pool_of}
use Rattle.pool_machine.specs.State.Stage.{At}
use Rattle.pool_machine.specs.Reach.{IsReached}
use Rattle.pool_machine.specs.LooseWaiting.{IsLooseWaitingSet}

-- the test passes for at least one of the n positions i, i + 1, .., i + n - 1
abbrev pub passes_from : (ℕ → Bool) → ℕ → ℕ → Bool
passes_from test i zero = false
passes_from test i (suc n) = test i || passes_from test (i + 1) n

-- a job of class k at this stage is running, and its current action or a later one is a counted get
abbrev pub may_block_at : Plan → Ranks → ℕ → Stage → Bool
may_block_at plan ranks k (At i) = passes_from (is_counted plan ranks k) i (length (class_at plan k).body - i)
may_block_at plan ranks k _ = false

-- the job belongs to pool p, and is at a counted get or before one
abbrev pub may_block_in : Plan → Ranks → ℕ → CreatedJob → Bool
may_block_in plan ranks p job = may_block_at plan ranks job.class job.stage && pool_of plan job.class == p

-- the number of jobs of pool p that are at a counted get or before one
abbrev pub may_block : Plan → Ranks → State → ℕ → ℕ
may_block plan ranks s p = count_by (may_block_in plan ranks p) s.jobs

-- Let the rows of the ranks and of a pool's blocked vector hold. Then in every reachable state, the number of jobs of this pool
-- that are at or before a counted get is at most the vector's total. It is also less than `least_threads`: the pool's core
-- size, or 1 if core threads may time out.
abbrev pub FewerThanCoreMayBlock : Type 0
FewerThanCoreMayBlock = (plan : Plan) (ranks : Ranks) (p : ℕ) (v : Vector) (s : State) → IsWellFormed plan → p < length plan.pools → AllHold (rank_rows plan ranks) → AllHold (blocked_rows plan p (is_counted plan ranks) v) → IsReached plan s
    → (may_block plan ranks s p ≤ total plan v) × (may_block plan ranks s p < least_threads (pool_at plan p))

-- Let the rows of the ranks and of a blocked vector for each pool hold. Then in every reachable state, no set of unfinished
-- jobs waits only for its own members, now or at later gets.
abbrev pub NoLooseWaitingSets : Type 0
NoLooseWaitingSets = (plan : Plan) (ranks : Ranks) (vectors : ℕ → Vector) (s : State) → IsWellFormed plan → AllHold (rank_rows plan ranks) → ((p : ℕ) → p < length plan.pools → AllHold (blocked_rows plan p (is_counted plan ranks) (vectors p))) → IsReached plan s
    → (members : List ℕ) → ¬ IsLooseWaitingSet plan s members
