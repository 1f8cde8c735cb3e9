-- The conditions of the standing vector of pool p. They show that the number of queued jobs of p never exceeds the capacity of
-- its queue. If the queue of p is unbounded, the only conditions are V2 to V7.
use Rattle.std.specs.Prelude.{ℕ, if◌then◌else◌, List, [], ◌∷◌, ◌++◌, map}
use Rattle.job_bodies.specs.Plan.{Plan, pool_at}
use Rattle.weights.specs.declared.row.Rule.TheVariants.{S1, S2}
use Rattle.weights.specs.declared.row.Place.TheVariants as place
use Rattle.weights.specs.declared.row.Row.{Row}
use Rattle.weights.specs.Row.{row}
use Rattle.weights.specs.Vector.{Vector, queued_weight, total}
use Rattle.weights.specs.GetReturn.{DoneWeight}
use Rattle.weights.specs.Rows.{rows, classes_of}

-- S1 of each class of pool p, and then S2; none if the queue of p is unbounded
abbrev pub capacity_rows : Plan → ℕ → Vector → List Row
capacity_rows plan p v =
    if (pool_at plan p).unbounded then []
    else map (λ entry. row S1 (place.Class entry.0) 1 (queued_weight v entry.0)) (classes_of plan p) ++ row S2 place.Total (total plan v) (pool_at plan p).queue ∷ []

-- the conditions of the standing vector v of pool p: V2 to V7, and then, if the queue of p is bounded, S1 for each class of p
-- and S2
abbrev pub standing_rows : Plan → ℕ → Vector → List Row
standing_rows plan p v = rows DoneWeight plan v ++ capacity_rows plan p v
