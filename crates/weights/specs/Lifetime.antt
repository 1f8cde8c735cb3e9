-- The conditions of the lifetime vector of pool p. They show that the queue and the threads of p have room for all jobs that
-- are ever submitted to p. If the queue of p is unbounded, the only conditions are L1, V2 to V4, L5, V6 and V7.
use Rattle.std.specs.Prelude.{ℕ, ◌+◌, ◌-◌, if◌then◌else◌, List, [], ◌∷◌, ◌++◌, map}
use Rattle.std.specs.List.{flat_map, enumerate_from}
use Rattle.job_bodies.specs.Plan.{Pool, Plan, pool_at, first_workers}
use Rattle.weights.specs.declared.row.Rule.TheVariants.{L1, L2, L3}
use Rattle.weights.specs.declared.row.Place.TheVariants as place
use Rattle.weights.specs.declared.row.Row.{Row}
use Rattle.weights.specs.Row.{row}
use Rattle.weights.specs.Vector.{Vector, workers_weight, class_weights, total}
use Rattle.weights.specs.GetReturn.{NoWeight}
use Rattle.weights.specs.Rows.{rows, classes_of}

-- the number of jobs that the pool accepts before it can refuse one: the capacity of its queue plus its maximum, minus its
-- prestarted threads. If core threads may time out, it is only the capacity of the queue, because Java then starts threads
-- without a job.
abbrev pub lifetime_limit : Pool → ℕ
lifetime_limit pool = if pool.core_timeout then pool.queue else pool.queue + pool.max - first_workers pool

-- L2 for each class of pool p, and then L3; no rows if the queue of p is unbounded
abbrev pub room_rows : Plan → ℕ → Vector → List Row
room_rows plan p v =
    if (pool_at plan p).unbounded then []
    else flat_map (λ entry. map (λ weight. row L2 (place.Class entry.0) 1 weight) (class_weights v entry.0)) (classes_of plan p)
    ++ row L3 place.Total (total plan v) (lifetime_limit (pool_at plan p)) ∷ []

-- the conditions of the lifetime vector v of pool p: L1 for each pool, and then V2 to V7 with L5 in place of V5. If the queue
-- of p is bounded, L2 for each class of p and then L3 follow.
abbrev pub lifetime_rows : Plan → ℕ → Vector → List Row
lifetime_rows plan p v =
    map (λ entry. row L1 (place.Worker entry.0) (workers_weight v entry.0) 0) (enumerate_from 0 plan.pools)
    ++ rows NoWeight plan v
    ++ room_rows plan p v
