-- The rows V2 to V7 of a vector, for all classes and client kinds of a plan. L5 replaces V5 in a lifetime vector.
use Rattle.std.specs.Prelude.{ℕ, ◌+◌, ◌==◌, if◌then◌else◌, List, [], ◌∷◌, ◌++◌, length, map, filter}
use Rattle.std.specs.List.{flat_map, enumerate_from}
use Rattle.job_bodies.specs.declared.action.Action.{Action}
use Rattle.job_bodies.specs.declared.action.Action.TheVariants.{Work, Submit, Get}
use Rattle.job_bodies.specs.Plan.{Class, Client, Plan, submitted_class}
use Rattle.weights.specs.declared.row.Rule.TheVariants.{V2, V3, V4, V6, V7}
use Rattle.weights.specs.declared.row.Place.{Place}
use Rattle.weights.specs.declared.row.Place.TheVariants as place
use Rattle.weights.specs.declared.row.Row.{Row}
use Rattle.weights.specs.Row.{row}
use Rattle.weights.specs.Vector.{Vector, workers_weight, queued_weight, job_weight, done_weight, client_weight}
use Rattle.weights.specs.GetReturn.{GetReturn, get_rule, returned_weight}

-- the row for the action at position i of a body; `weight j` is the weight of the actor at position j, and `place_at j` is the
-- place of the action at position j
abbrev pub action_row : GetReturn → Plan → Vector → (ℕ → ℕ) → (ℕ → Place) → List Action → ℕ → Action → Row
action_row get_return plan v weight place_at body i (Work u) = row V2 (place_at i) (weight (i + 1)) (weight i)
action_row get_return plan v weight place_at body i (Submit k) = row V3 (place_at i) (weight (i + 1) + queued_weight v k) (weight i)
action_row get_return plan v weight place_at body i (Get t) = row (get_rule get_return) (place_at i) (weight (i + 1)) (weight i + returned_weight get_return plan v (submitted_class body t))

abbrev pub body_rows : GetReturn → Plan → Vector → (ℕ → ℕ) → (ℕ → Place) → List Action → List Row
body_rows get_return plan v weight place_at body = map (λ entry. action_row get_return plan v weight place_at body entry.0 entry.1) (enumerate_from 0 body)

-- the rows of class k: V4, those of its actions, and V6
abbrev pub class_rows : GetReturn → Plan → Vector → ℕ → Class → List Row
class_rows get_return plan v k class =
    row V4 (place.Class k) (job_weight v k 0) (queued_weight v k + workers_weight v class.pool)
    ∷ (body_rows get_return plan v (job_weight v k) (place.ClassAction k) class.body
    ++ row V6 (place.Class k) (done_weight plan v k + workers_weight v class.pool) (job_weight v k (length class.body)) ∷ [])

-- the rows of client kind c: those of its actions, and V7 if it repeats
abbrev pub client_rows : GetReturn → Plan → Vector → ℕ → Client → List Row
client_rows get_return plan v c client =
    body_rows get_return plan v (client_weight v c) (place.ClientAction c) client.body
    ++ (if client.repeat then row V7 (place.Client c) (client_weight v c 0) (client_weight v c (length client.body)) ∷ [] else [])

-- the rows of all classes and then of all client kinds
abbrev pub rows : GetReturn → Plan → Vector → List Row
rows get_return plan v =
    flat_map (λ entry. class_rows get_return plan v entry.0 entry.1) (enumerate_from 0 plan.classes)
    ++ flat_map (λ entry. client_rows get_return plan v entry.0 entry.1) (enumerate_from 0 plan.clients)

-- the classes of pool p, with their indices
abbrev pub classes_of : Plan → ℕ → List (ℕ × Class)
classes_of plan p = filter (λ entry. entry.1.pool == p) (enumerate_from 0 plan.classes)
