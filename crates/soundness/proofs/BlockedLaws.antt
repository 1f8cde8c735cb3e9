-- The inequalities that a blocked vector satisfies if its rows hold.
use Rattle.std.proofs.Common.{◌≡◌, ℕ, ◌-◌, ◌≤◌, Bool, true, ◌&&◌, [], ◌∷◌, ◌++◌, flat_map, slice_get, Some, zero-add}
use Rattle.support.specs.In.{here}
use Rattle.support.proofs.Members.{In-append_left, In-append_right, In-map, In-flat_map, In-filter, In-enumerate_from}
use Rattle.job_bodies.specs.declared.action.Action.{Action}
use Rattle.job_bodies.specs.declared.action.Action.TheVariants as action
use Rattle.job_bodies.specs.Plan.{Class, Plan, pool_at, class_at, least_threads}
use Rattle.weights.specs.declared.get_return.GetReturn.TheVariants.{DoneWeight}
use Rattle.weights.specs.declared.row.Rule.TheVariants.{B1, B2}
use Rattle.weights.specs.declared.row.Place.TheVariants as place
use Rattle.weights.specs.Row.{row, AllHold}
use Rattle.weights.specs.Vector.{Vector, job_weight, total}
use Rattle.weights.specs.Rows.{rows, classes_of}
use Rattle.weights.specs.Blocked.{is_get, counted_rows, blocked_rows}
use Rattle.soundness.proofs.VectorLaws.{VectorLaws, vector_laws, numbered_class_of, class_of_action}

-- the inequalities of the rules V2 to V7, B1 and B2
pub record BlockedLaws (plan : Plan) (counted : ℕ → ℕ → Bool) (p : ℕ) (v : Vector) : Type 0 where
  pub laws : VectorLaws DoneWeight plan v
  pub blocked : (k i t : ℕ) → (class_at plan k).pool ≡ p → slice_get (class_at plan k).body i ≡ Some (action.Get t) → counted k i ≡ true → 1 ≤ job_weight v k i
  pub within : total plan v ≤ least_threads (pool_at plan p) - 1

-- if the rows of a blocked vector hold, the inequalities of the vector hold
pub blocked_laws : (plan : Plan) (counted : ℕ → ℕ → Bool) (p : ℕ) (v : Vector) → AllHold (blocked_rows plan p counted v) → BlockedLaws plan counted p v
blocked_laws plan counted p v hold =
    let of_class = λ (entry : ℕ × Class). counted_rows counted v entry.0 entry.1 in
    let of_classes = flat_map of_class (classes_of plan p) in
    let last = row B2 place.Total (total plan v) (least_threads (pool_at plan p) - 1) in
    record {
      laws = vector_laws DoneWeight plan v (λ x i. hold x (In-append_left (last ∷ []) (In-append_left of_classes i)));
      blocked = λ k i t of_pool is_there is_counted.
          hold (row B1 (place.ClassAction k i) 1 (job_weight v k i))
          (In-append_left (last ∷ []) (In-append_right (rows DoneWeight plan v)
          (In-flat_map of_class (numbered_class_of plan p k (class_of_action plan k i (action.Get t) is_there) of_pool)
          (In-map (λ (entry : ℕ × Action). row B1 (place.ClassAction k entry.0) 1 (job_weight v k entry.0))
          (In-filter (λ (entry : ℕ × Action). is_get entry.1 && counted k entry.0) (In-enumerate_from 0 (class_at plan k).body i (action.Get t) i is_there (zero-add i)) is_counted)))));
      within = hold last (In-append_right (rows DoneWeight plan v ++ of_classes) here);
    }
