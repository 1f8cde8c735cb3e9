-- The pools that reject jobs in a recording.
use Rattle.std.specs.Prelude.{ℕ, ◌==◌, ◌&&◌, ◌||◌, not, Bool, true, List, map}
use Rattle.std.specs.List.{list_any, enumerate_from}
use Rattle.job_bodies.specs.Plan as plans
use Rattle.job_bodies.specs.Plan.{Plan}
use Rattle.recordings.specs.RecordingLine.{RecordedLine}
use Rattle.conformance.specs.RejectionRule.{pools_in, refusing_pools_in}

-- ---- the plan in which every pool may reject jobs
-- The pool with this value of the key `may_reject`. A pool with a queue of 0 always has the key, because no other pool may
-- have such a queue.
abbrev pub with_key : Bool → plans.Pool → plans.Pool
with_key key pool = record pool { may_reject = key || pool.queue == 0 }

abbrev pub with_all_keys : Plan → Plan
with_all_keys plan = record plan { pools = map (with_key true) plan.pools }

-- ---- the pools that reject jobs
-- The list has the pool.
abbrev pub is_among : ℕ → List ℕ → Bool
is_among pool pools = list_any (λ one. one == pool) pools

-- The pool is in `rejecting`, the pools of the allowed rejections, and not in `refusing`, the pools of the other refusals.
abbrev pub only_rejects_by : List ℕ → List ℕ → ℕ → Bool
only_rejects_by rejecting refusing pool = is_among pool rejecting && not (is_among pool refusing)

-- The pool refuses at least one job in the recording, and the plan in which every pool may reject jobs allows each refusal by
-- the pool.
abbrev pub only_rejects : Plan → List RecordedLine → ℕ → Bool
only_rejects plan lines pool = let all = with_all_keys plan in
    only_rejects_by (pools_in all lines lines) (refusing_pools_in all lines lines) pool

-- ---- the plan in which exactly these pools may reject jobs
-- The pools with a new value of the key `may_reject`: a pool has the key if `rejects` is true for it, or if its queue is 0.
abbrev pub with_keys : (ℕ → Bool) → List plans.Pool → List plans.Pool
with_keys rejects pools = map (λ (number, pool). with_key (rejects number) pool) (enumerate_from 0 pools)

-- The plan in which a pool may reject jobs exactly if `only_rejects` holds for it, or its queue is 0.
abbrev pub with_rejecting_pools : Plan → List RecordedLine → Plan
with_rejecting_pools plan lines = record plan { pools = with_keys (only_rejects plan lines) plan.pools }
