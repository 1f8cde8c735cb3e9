-- If the laws of a vector and of ranks hold, so do their rows.
use Rattle.std.proofs.Common.{◌≡◌, ℕ, suc, ◌+◌, ◌<◌, ◌≤◌, Bool, true, false, cond, List, [], ◌∷◌, length, flat_map, slice_get, Some, ⊎_elim, refl, sym, ap, subst, ◌∙◌, arith}
use Rattle.std.specs.List.{enumerate_from}
use Rattle.std.proofs.lemmas.Option.{slice_get_within, get_or_from_slice_get}
use Rattle.support.specs.In.{In}
use Rattle.support.proofs.Members.{not_In_nil, In-cons_cases, In-append_cases, In-push_cases, In-map_from, In-flat_map_from}
use Rattle.job_bodies.specs.declared.action.Action.{Action}
use Rattle.job_bodies.specs.declared.action.Action.TheVariants.{Work, Submit, Get}
use Rattle.job_bodies.specs.Plan.{Class, Client, Plan, no_class, no_client, class_at, client_at}
use Rattle.weights.specs.declared.get_return.GetReturn.TheVariants.{DoneWeight}
use Rattle.weights.specs.declared.row.Place.{Place}
use Rattle.weights.specs.declared.row.Place.TheVariants as place
use Rattle.weights.specs.declared.row.Row.{Row}
use Rattle.weights.specs.declared.row.Rule.TheVariants.{V7}
use Rattle.weights.specs.Row.{row, AllHold}
use Rattle.weights.specs.Vector.{Vector, job_weight, client_weight}
use Rattle.weights.specs.Rows.{action_row, body_rows, class_rows, client_rows, rows}
use Rattle.soundness.proofs.VectorLaws.{BodyLaws, VectorLaws}
use Rattle.weights.specs.Ranks.{Ranks, rank_rows_of_action, rank_rows_of_class, rank_rows}
use Rattle.soundness.proofs.RankLaws.{RankLaws}

-- an entry of an enumeration from n is a number n + i, with the element at index i
pub numbered : {X : Type 0} (n : ℕ) (xs : List X) (entry : ℕ × X) → In entry (enumerate_from n xs) → (i : ℕ) × (entry.0 ≡ n + i) × (slice_get xs i ≡ Some entry.1)
numbered n [] entry at = absurd (not_In_nil at)
numbered {X} n (x ∷ xs) entry at =
    ⊎_elim
    (λ (same : ◌≡◌ {A = ℕ × X} entry (n, x)).
    let number : entry.0 ≡ n = ap (λ (e : ℕ × X). e.0) same in
    let element : x ≡ entry.1 = ap (λ (e : ℕ × X). e.1) (sym same) in
    (0, omega arith, ap Some element))
    (λ later.
    let found = numbered (n + 1) xs entry later in
    (suc found.0, omega (arith, found.1), found.2))
    (In-cons_cases at)

-- an entry of an enumeration from 0 is an index, with the element at this index
pub at_number : {X : Type 0} (xs : List X) (entry : ℕ × X) → In entry (enumerate_from 0 xs) → slice_get xs entry.0 ≡ Some entry.1
at_number xs entry at =
    let found = numbered 0 xs entry at in
    let number : entry.0 ≡ found.0 = omega (arith, found.1) in
    ap (slice_get xs) number ∙ found.2

-- ---- a vector

action_holds : (plan : Plan) (v : Vector) (weight : ℕ → ℕ) (place_at : ℕ → Place) (body : List Action) (i : ℕ) (x : Action) → BodyLaws DoneWeight plan v weight body → slice_get body i ≡ Some x
    → (action_row DoneWeight plan v weight place_at body i x).left ≤ (action_row DoneWeight plan v weight place_at body i x).right
action_holds plan v weight place_at body i (Work u) laws at = laws.work i u at
action_holds plan v weight place_at body i (Submit k) laws at = laws.submit i k at
action_holds plan v weight place_at body i (Get t) laws at = laws.get i t at

body_holds : (plan : Plan) (v : Vector) (weight : ℕ → ℕ) (place_at : ℕ → Place) (body : List Action) → BodyLaws DoneWeight plan v weight body → AllHold (body_rows DoneWeight plan v weight place_at body)
body_holds plan v weight place_at body laws x at =
    let found = In-map_from (λ (entry : ℕ × Action). action_row DoneWeight plan v weight place_at body entry.0 entry.1) (enumerate_from 0 body) at in
    subst (λ (y : Row). y.left ≤ y.right) found.2 (action_holds plan v weight place_at body found.0.0 found.0.1 laws (at_number body found.0 found.1))

class_holds : (plan : Plan) (v : Vector) (k : ℕ) → VectorLaws DoneWeight plan v → k < length plan.classes → AllHold (class_rows DoneWeight plan v k (class_at plan k))
class_holds plan v k laws inside x at =
    let body = (class_at plan k).body in
    let of_body = body_rows DoneWeight plan v (job_weight v k) (place.ClassAction k) body in
    ⊎_elim
    (λ first. subst (λ (y : Row). y.left ≤ y.right) (sym first) (laws.begins k inside))
    (λ later.
    ⊎_elim
    (λ among. body_holds plan v (job_weight v k) (place.ClassAction k) body (laws.classes k) x among)
    (λ final. subst (λ (y : Row). y.left ≤ y.right) (sym final) (laws.ends k inside))
    (In-push_cases of_body _ later))
    (In-cons_cases at)

loop_holds : (v : Vector) (c last : ℕ) (repeat : Bool) → (repeat ≡ true → client_weight v c 0 ≤ client_weight v c last) → AllHold (cond repeat (row V7 (place.Client c) (client_weight v c 0) (client_weight v c last) ∷ []) [])
loop_holds v c last true holds x at =
    ⊎_elim (λ this. subst (λ (y : Row). y.left ≤ y.right) (sym this) (holds refl)) (λ none. absurd (not_In_nil none)) (In-cons_cases at)
loop_holds v c last false holds x at = absurd (not_In_nil at)

client_holds : (plan : Plan) (v : Vector) (c : ℕ) → VectorLaws DoneWeight plan v → AllHold (client_rows DoneWeight plan v c (client_at plan c))
client_holds plan v c laws x at =
    let client = client_at plan c in
    let of_body = body_rows DoneWeight plan v (client_weight v c) (place.ClientAction c) client.body in
    ⊎_elim
    (λ among. body_holds plan v (client_weight v c) (place.ClientAction c) client.body (laws.clients c) x among)
    (λ final. loop_holds v c (length client.body) client.repeat (laws.loops c) x final)
    (In-append_cases of_body _ at)

pub rows_hold : (plan : Plan) (v : Vector) → VectorLaws DoneWeight plan v → AllHold (rows DoneWeight plan v)
rows_hold plan v laws x at =
    ⊎_elim
    (λ first.
    let found = In-flat_map_from (λ (entry : ℕ × Class). class_rows DoneWeight plan v entry.0 entry.1) (enumerate_from 0 plan.classes) first in
    let there_is = at_number plan.classes found.0 found.1 in
    let is : found.0.1 ≡ class_at plan found.0.0 = sym (get_or_from_slice_get plan.classes found.0.0 found.0.1 no_class there_is) in
    class_holds plan v found.0.0 laws (slice_get_within plan.classes found.0.0 found.0.1 there_is) x (subst (λ (class : Class). In x (class_rows DoneWeight plan v found.0.0 class)) is found.2))
    (λ second.
    let found = In-flat_map_from (λ (entry : ℕ × Client). client_rows DoneWeight plan v entry.0 entry.1) (enumerate_from 0 plan.clients) second in
    let is : found.0.1 ≡ client_at plan found.0.0 = sym (get_or_from_slice_get plan.clients found.0.0 found.0.1 no_client (at_number plan.clients found.0 found.1)) in
    client_holds plan v found.0.0 laws x (subst (λ (client : Client). In x (client_rows DoneWeight plan v found.0.0 client)) is found.2))
    (In-append_cases
    (flat_map (λ (entry : ℕ × Class). class_rows DoneWeight plan v entry.0 entry.1) (enumerate_from 0 plan.classes))
    (flat_map (λ (entry : ℕ × Client). client_rows DoneWeight plan v entry.0 entry.1) (enumerate_from 0 plan.clients)) at)

-- ---- ranks

rank_action_holds : (plan : Plan) (ranks : Ranks) (k i : ℕ) (x : Action) → RankLaws plan ranks → slice_get (class_at plan k).body i ≡ Some x → AllHold (rank_rows_of_action ranks k (class_at plan k).body i x)
rank_action_holds plan ranks k i (Work u) laws at y among = absurd (not_In_nil among)
rank_action_holds plan ranks k i (Submit j) laws at y among =
    ⊎_elim (λ this. subst (λ (z : Row). z.left ≤ z.right) (sym this) (laws.sinks k i j at)) (λ none. absurd (not_In_nil none)) (In-cons_cases among)
rank_action_holds plan ranks k i (Get t) laws at y among =
    ⊎_elim (λ this. subst (λ (z : Row). z.left ≤ z.right) (sym this) (laws.falls k i t at)) (λ none. absurd (not_In_nil none)) (In-cons_cases among)

rank_class_holds : (plan : Plan) (ranks : Ranks) (k : ℕ) → RankLaws plan ranks → k < length plan.classes → AllHold (rank_rows_of_class ranks k (class_at plan k))
rank_class_holds plan ranks k laws inside x at =
    let body = (class_at plan k).body in
    ⊎_elim
    (λ first. subst (λ (y : Row). y.left ≤ y.right) (sym first) (laws.reaches k inside))
    (λ later.
    let found = In-flat_map_from (λ (entry : ℕ × Action). rank_rows_of_action ranks k body entry.0 entry.1) (enumerate_from 0 body) later in
    rank_action_holds plan ranks k found.0.0 found.0.1 laws (at_number body found.0 found.1) x found.2)
    (In-cons_cases at)

pub rank_rows_hold : (plan : Plan) (ranks : Ranks) → RankLaws plan ranks → AllHold (rank_rows plan ranks)
rank_rows_hold plan ranks laws x at =
    let found = In-flat_map_from (λ (entry : ℕ × Class). rank_rows_of_class ranks entry.0 entry.1) (enumerate_from 0 plan.classes) at in
    let there_is = at_number plan.classes found.0 found.1 in
    let is : found.0.1 ≡ class_at plan found.0.0 = sym (get_or_from_slice_get plan.classes found.0.0 found.0.1 no_class there_is) in
    rank_class_holds plan ranks found.0.0 laws (slice_get_within plan.classes found.0.0 found.0.1 there_is) x (subst (λ (class : Class). In x (rank_rows_of_class ranks found.0.0 class)) is found.2)
