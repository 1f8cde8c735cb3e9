-- The inequalities that a standing vector or a lifetime vector satisfies if its rows hold.
use Rattle.std.proofs.Common.{◌≡◌, ℕ, ◌+◌, ◌<◌, ◌≤◌, Bool, true, false, cond, List, [], ◌∷◌, ◌++◌, length, map, flat_map, get_or, Option, Some, None, arith}
use Rattle.std.specs.List.{enumerate_from}
use Rattle.support.specs.In.{In, here}
use Rattle.support.proofs.Members.{In-append_left, In-append_right, In-map, In-flat_map, In-get_or}
use Rattle.job_bodies.specs.Plan.{Pool, Class, Plan, pool_at, class_at, needs_no_bound}
use Rattle.weights.specs.declared.get_return.GetReturn.TheVariants.{DoneWeight, NoWeight}
use Rattle.weights.specs.declared.row.Rule.TheVariants.{S1, S2, L1, L2, L3}
use Rattle.weights.specs.declared.row.Place.TheVariants as place
use Rattle.weights.specs.declared.bound.Bound.{Bound}
use Rattle.weights.specs.declared.bound.Bound.TheVariants.{Standing, Lifetime}
use Rattle.weights.specs.declared.row.Row.{Row}
use Rattle.weights.specs.Row.{row, AllHold}
use Rattle.weights.specs.Vector.{Vector, workers_weight, class_weights, queued_weight, job_weight, done_weight, vector_fits, total}
use Rattle.weights.specs.Rows.{rows, classes_of}
use Rattle.weights.specs.Standing.{capacity_rows, standing_rows}
use Rattle.weights.specs.Lifetime.{lifetime_limit, room_rows, lifetime_rows}
use Rattle.weights.specs.Bound.{bound_vector, bound_get_return, bound_rows}
use Rattle.weights.proofs.Fitting.{fits}
use Rattle.soundness.proofs.VectorLaws.{VectorLaws, numbered_class_of, vector_laws}

-- ---- a standing vector

-- the inequalities of the rules V2 to V7 and, if the queue of the pool is bounded, of S1 and S2
pub record StandingLaws (plan : Plan) (p : ℕ) (v : Vector) : Type 0 where
  pub laws : VectorLaws DoneWeight plan v
  pub queued : (pool_at plan p).unbounded ≡ false → (k : ℕ) → k < length plan.classes → (class_at plan k).pool ≡ p → 1 ≤ queued_weight v k
  pub within : (pool_at plan p).unbounded ≡ false → total plan v ≤ (pool_at plan p).queue

-- if the queue is bounded, a row of the list is among the conditions, which are this list for a bounded queue and none for an unbounded one
row_if_bounded : (unbounded : Bool) (all : List Row) (x : Row) → unbounded ≡ false → In x all → In x (cond unbounded [] all)
row_if_bounded true all x bounded i = absurd cc
row_if_bounded false all x bounded i = i

-- if the rows of a standing vector hold, the inequalities of the vector hold
pub standing_laws : (plan : Plan) (p : ℕ) (v : Vector) → AllHold (standing_rows plan p v) → StandingLaws plan p v
standing_laws plan p v hold =
    let queued_row = λ (entry : ℕ × Class). row S1 (place.Class entry.0) 1 (queued_weight v entry.0) in
    let of_classes = map queued_row (classes_of plan p) in
    let last = row S2 place.Total (total plan v) (pool_at plan p).queue in
    -- S1 of each class, and S2, hold if the queue is bounded
    let of_capacity : (pool_at plan p).unbounded ≡ false → AllHold (of_classes ++ last ∷ []) = λ bounded x i.
    hold x (In-append_right (rows DoneWeight plan v) (row_if_bounded (pool_at plan p).unbounded (of_classes ++ last ∷ []) x bounded i)) in
    record {
      laws = vector_laws DoneWeight plan v (λ x i. hold x (In-append_left (capacity_rows plan p v) i));
      queued = λ bounded k inside of_pool. of_capacity bounded (queued_row (k, class_at plan k)) (In-append_left (last ∷ []) (In-map queued_row (numbered_class_of plan p k inside of_pool)));
      within = λ bounded. of_capacity bounded last (In-append_right of_classes here);
    }

-- ---- a lifetime vector

-- the inequalities of the rules V2 to V7 with L5 in place of V5 and, if the queue of the pool is bounded, of L2 and L3
pub record LifetimeLaws (plan : Plan) (p : ℕ) (v : Vector) : Type 0 where
  pub laws : VectorLaws NoWeight plan v
  pub queued : (pool_at plan p).unbounded ≡ false → (k : ℕ) → k < length plan.classes → (class_at plan k).pool ≡ p → 1 ≤ queued_weight v k
  pub position : (pool_at plan p).unbounded ≡ false → (k i : ℕ) → k < length plan.classes → (class_at plan k).pool ≡ p → i ≤ length (class_at plan k).body → 1 ≤ job_weight v k i
  pub done : (pool_at plan p).unbounded ≡ false → (k : ℕ) → k < length plan.classes → (class_at plan k).pool ≡ p → 1 ≤ done_weight plan v k
  pub within : (pool_at plan p).unbounded ≡ false → total plan v ≤ lifetime_limit (pool_at plan p)

-- if a lifetime vector fits the plan and its rows hold, the inequalities of the vector hold
pub lifetime_laws : (plan : Plan) (p : ℕ) (v : Vector) → vector_fits plan v ≡ true → AllHold (lifetime_rows plan p v) → LifetimeLaws plan p v
lifetime_laws plan p v fit hold =
    let of_workers = map (λ (entry : ℕ × Pool). row L1 (place.Worker entry.0) (workers_weight v entry.0) 0) (enumerate_from 0 plan.pools) in
    let of_class = λ (entry : ℕ × Class). map (λ (weight : ℕ). row L2 (place.Class entry.0) 1 weight) (class_weights v entry.0) in
    let of_classes = flat_map of_class (classes_of plan p) in
    let last = row L3 place.Total (total plan v) (lifetime_limit (pool_at plan p)) in
    -- L2 of each class, and L3, hold if the queue is bounded
    let of_room : (pool_at plan p).unbounded ≡ false → AllHold (of_classes ++ last ∷ []) = λ bounded x i.
    hold x (In-append_right (of_workers ++ rows NoWeight plan v) (row_if_bounded (pool_at plan p).unbounded (of_classes ++ last ∷ []) x bounded i)) in
    -- the weight at index n of the weights of class k is at least 1
    let each : (pool_at plan p).unbounded ≡ false → (k n : ℕ) → k < length plan.classes → (class_at plan k).pool ≡ p → n < length (class_weights v k) → 1 ≤ get_or (class_weights v k) n 0 = λ bounded k n inside of_pool there_is.
    of_room bounded (row L2 (place.Class k) 1 (get_or (class_weights v k) n 0))
    (In-append_left (last ∷ [])
    (In-flat_map of_class (numbered_class_of plan p k inside of_pool) (In-map (λ (weight : ℕ). row L2 (place.Class k) 1 weight) (In-get_or (class_weights v k) n 0 there_is)))) in
    record {
      laws = vector_laws NoWeight plan v (λ x i. hold x (In-append_left (room_rows plan p v) (In-append_right of_workers i)));
      queued = λ bounded k inside of_pool. each bounded k 0 inside of_pool (let long = (fits plan v fit).class k inside in omega arith);
      position = λ bounded k i inside of_pool within. each bounded k (i + 1) inside of_pool (let long = (fits plan v fit).class k inside in omega arith);
      done = λ bounded k inside of_pool. each bounded k (length (class_at plan k).body + 2) inside of_pool (let long = (fits plan v fit).class k inside in omega arith);
      within = λ bounded. of_room bounded last (In-append_right of_classes here);
    }

-- ---- either

-- the inequalities of a pool's bound, which is a standing vector or a lifetime vector
abbrev pub BoundLaws : Plan → ℕ → Bound → Type 0
BoundLaws plan p (Standing v) = StandingLaws plan p v
BoundLaws plan p (Lifetime v) = LifetimeLaws plan p v

-- if a bound's vector fits the plan and the rows of the bound hold, the inequalities of the bound hold
pub bound_laws : (plan : Plan) (p : ℕ) (bound : Bound) → vector_fits plan (bound_vector bound) ≡ true → AllHold (bound_rows plan p bound) → BoundLaws plan p bound
bound_laws plan p (Standing v) fit hold = standing_laws plan p v hold
bound_laws plan p (Lifetime v) fit hold = lifetime_laws plan p v fit hold

-- the vector of a bound satisfies V2 to V7, with L5 in place of V5 if it is a lifetime vector
pub bound_vector_laws : (plan : Plan) (p : ℕ) (bound : Bound) → BoundLaws plan p bound → VectorLaws (bound_get_return bound) plan (bound_vector bound)
bound_vector_laws plan p (Standing v) of_bound = of_bound.laws
bound_vector_laws plan p (Lifetime v) of_bound = of_bound.laws

-- the inequalities of the bound of pool p; if there is no bound, pool p needs none: it may reject jobs, or its queue is unbounded
abbrev pub PoolBoundLaws : Plan → ℕ → Option Bound → Type 0
PoolBoundLaws plan p None = needs_no_bound (pool_at plan p) ≡ true
PoolBoundLaws plan p (Some bound) = BoundLaws plan p bound
