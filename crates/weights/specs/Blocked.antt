-- The conditions of the blocked vector of pool p. They show that fewer than `least_threads` jobs of p wait at counted gets.
use Rattle.std.specs.Prelude.{ℕ, ◌-◌, Bool, true, false, ◌&&◌, List, [], ◌∷◌, ◌++◌, map, filter}
use Rattle.std.specs.List.{flat_map, enumerate_from}
use Rattle.job_bodies.specs.declared.action.Action.{Action}
use Rattle.job_bodies.specs.declared.action.Action.TheVariants.{Get}
use Rattle.job_bodies.specs.Plan.{Class, Plan, pool_at, least_threads}
use Rattle.weights.specs.declared.row.Rule.TheVariants.{B1, B2}
use Rattle.weights.specs.declared.row.Place.TheVariants as place
use Rattle.weights.specs.declared.row.Row.{Row}
use Rattle.weights.specs.Row.{row}
use Rattle.weights.specs.Vector.{Vector, job_weight, total}
use Rattle.weights.specs.declared.get_return.GetReturn.TheVariants.{DoneWeight}
use Rattle.weights.specs.Rows.{rows, classes_of}

abbrev pub is_get : Action → Bool
is_get (Get t) = true
is_get _ = false

-- the rows B1 of class k, one for each counted get
abbrev pub counted_rows : (ℕ → ℕ → Bool) → Vector → ℕ → Class → List Row
counted_rows counted v k class =
    map (λ entry. row B1 (place.ClassAction k entry.0) 1 (job_weight v k entry.0))
    (filter (λ entry. is_get entry.1 && counted k entry.0) (enumerate_from 0 class.body))

-- the conditions of the blocked vector v of pool p: V2 to V7, then B1 of each counted get of each class of p, then B2
abbrev pub blocked_rows : Plan → ℕ → (ℕ → ℕ → Bool) → Vector → List Row
blocked_rows plan p counted v =
    rows DoneWeight plan v
    ++ flat_map (λ entry. counted_rows counted v entry.0 entry.1) (classes_of plan p)
    ++ row B2 place.Total (total plan v) (least_threads (pool_at plan p) - 1) ∷ []
