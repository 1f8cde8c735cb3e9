-- The inequalities that a vector satisfies if its rows hold, rule by rule.
use Rattle.std.proofs.Common.{◌≡◌, ℕ, ◌+◌, ◌<◌, ◌≤◌, true, false, inl, inr, List, [], ◌∷◌, length, flat_map, slice_get, Some, None, sym, ap, subst, cond, eqb, zero-add}
use Rattle.std.specs.List.{enumerate_from}
use Rattle.std.proofs.lemmas.Bool.{cases_lt, eq-eqb}
use Rattle.std.proofs.lemmas.List.{get_or_past}
use Rattle.std.proofs.lemmas.Option.{slice_get-get_or}
use Rattle.support.specs.In.{In, here, there}
use Rattle.support.proofs.Members.{not_In_nil, In-append_left, In-append_right, In-map, In-flat_map, In-filter, In-enumerate_from}
use Rattle.job_bodies.specs.declared.action.Action.{Action}
use Rattle.job_bodies.specs.declared.action.Action.TheVariants as action
use Rattle.job_bodies.specs.Plan.{Class, Client, Plan, no_class, no_client, class_at, client_at, submitted_class}
use Rattle.weights.specs.declared.get_return.GetReturn.{GetReturn}
use Rattle.weights.specs.declared.row.Place.{Place}
use Rattle.weights.specs.declared.row.Place.TheVariants as place
use Rattle.weights.specs.declared.row.Rule.TheVariants.{V7}
use Rattle.weights.specs.Row.{row, AllHold}
use Rattle.weights.specs.Vector.{Vector, workers_weight, queued_weight, job_weight, done_weight, client_weight}
use Rattle.weights.specs.GetReturn.{returned_weight}
use Rattle.weights.specs.Rows.{action_row, body_rows, class_rows, client_rows, rows, classes_of}

-- the inequalities of the rules V2, V3, and V5 or L5, at each position of a body; `weight i` is the weight of its actor at
-- position i
pub record BodyLaws (get_return : GetReturn) (plan : Plan) (v : Vector) (weight : ℕ → ℕ) (body : List Action) : Type 0 where
  pub work : (i u : ℕ) → slice_get body i ≡ Some (action.Work u) → weight (i + 1) ≤ weight i
  pub submit : (i k : ℕ) → slice_get body i ≡ Some (action.Submit k) → weight (i + 1) + queued_weight v k ≤ weight i
  pub get : (i t : ℕ) → slice_get body i ≡ Some (action.Get t) → weight (i + 1) ≤ weight i + returned_weight get_return plan v (submitted_class body t)

-- the inequalities of the rules V2 to V7, with V5 or L5 as `get_return` says
pub record VectorLaws (get_return : GetReturn) (plan : Plan) (v : Vector) : Type 0 where
  pub classes : (k : ℕ) → BodyLaws get_return plan v (job_weight v k) (class_at plan k).body
  pub clients : (c : ℕ) → BodyLaws get_return plan v (client_weight v c) (client_at plan c).body
  pub begins : (k : ℕ) → k < length plan.classes → job_weight v k 0 ≤ queued_weight v k + workers_weight v (class_at plan k).pool
  pub ends : (k : ℕ) → k < length plan.classes → done_weight plan v k + workers_weight v (class_at plan k).pool ≤ job_weight v k (length (class_at plan k).body)
  pub loops : (c : ℕ) → (client_at plan c).repeat ≡ true → client_weight v c 0 ≤ client_weight v c (length (client_at plan c).body)

-- ---- the positions of the rows

-- each class is in the numbered list of classes with its index
pub numbered_class : (plan : Plan) (k : ℕ) → k < length plan.classes → In (k, class_at plan k) (enumerate_from 0 plan.classes)
numbered_class plan k inside = In-enumerate_from 0 plan.classes k (class_at plan k) k (slice_get-get_or plan.classes k no_class inside) (zero-add k)

-- each client kind is in the numbered list of client kinds with its index
numbered_client : (plan : Plan) (c : ℕ) → c < length plan.clients → In (c, client_at plan c) (enumerate_from 0 plan.clients)
numbered_client plan c inside = In-enumerate_from 0 plan.clients c (client_at plan c) c (slice_get-get_or plan.clients c no_client inside) (zero-add c)

-- each class is in the list of the classes of its pool, with its index
pub numbered_class_of : (plan : Plan) (p k : ℕ) → k < length plan.classes → (class_at plan k).pool ≡ p → In (k, class_at plan k) (classes_of plan p)
numbered_class_of plan p k inside of_pool = In-filter (λ (entry : ℕ × Class). eqb entry.1.pool p) (numbered_class plan k inside) (eq-eqb (class_at plan k).pool p of_pool)

-- if a class's body has an action, the class exists
pub class_of_action : (plan : Plan) (k i : ℕ) (x : Action) → slice_get (class_at plan k).body i ≡ Some x → k < length plan.classes
class_of_action plan k i x e = elim (cases_lt k (length plan.classes)) [
  | inl inside ↦ inside
  | inr past ↦
      let none : slice_get (class_at plan k).body i ≡ None = ap (λ (class : Class). slice_get class.body i) (get_or_past plan.classes k no_class past) in
      absurd cc
]

-- ---- the inequalities

-- the row of each action of a body is among the rows of the body
row_of_action : (get_return : GetReturn) (plan : Plan) (v : Vector) (weight : ℕ → ℕ) (place_at : ℕ → Place) (body : List Action) (i : ℕ) (x : Action) → slice_get body i ≡ Some x
    → In (action_row get_return plan v weight place_at body i x) (body_rows get_return plan v weight place_at body)
row_of_action get_return plan v weight place_at body i x e = In-map (λ (entry : ℕ × Action). action_row get_return plan v weight place_at body entry.0 entry.1) (In-enumerate_from 0 body i x i e (zero-add i))

-- if the rows of a body hold, the inequalities of the body hold
body_laws : (get_return : GetReturn) (plan : Plan) (v : Vector) (weight : ℕ → ℕ) (place_at : ℕ → Place) (body : List Action) → AllHold (body_rows get_return plan v weight place_at body) → BodyLaws get_return plan v weight body
body_laws get_return plan v weight place_at body hold = record {
  work = λ i u e. hold _ (row_of_action get_return plan v weight place_at body i (action.Work u) e);
  submit = λ i k e. hold _ (row_of_action get_return plan v weight place_at body i (action.Submit k) e);
  get = λ i t e. hold _ (row_of_action get_return plan v weight place_at body i (action.Get t) e);
}

-- the inequalities of an empty body hold
no_body_laws : (get_return : GetReturn) (plan : Plan) (v : Vector) (weight : ℕ → ℕ) → BodyLaws get_return plan v weight []
no_body_laws get_return plan v weight = body_laws get_return plan v weight place.Class [] (λ x i. absurd (not_In_nil i))

-- if all rows of a vector hold, the rows of each class hold
class_holds : (get_return : GetReturn) (plan : Plan) (v : Vector) → AllHold (rows get_return plan v) → (k : ℕ) → k < length plan.classes → AllHold (class_rows get_return plan v k (class_at plan k))
class_holds get_return plan v hold k inside x i =
    hold x (In-append_left (flat_map (λ (entry : ℕ × Client). client_rows get_return plan v entry.0 entry.1) (enumerate_from 0 plan.clients))
    (In-flat_map (λ (entry : ℕ × Class). class_rows get_return plan v entry.0 entry.1) (numbered_class plan k inside) i))

-- if all rows of a vector hold, the rows of each client kind hold
client_holds : (get_return : GetReturn) (plan : Plan) (v : Vector) → AllHold (rows get_return plan v) → (c : ℕ) → c < length plan.clients → AllHold (client_rows get_return plan v c (client_at plan c))
client_holds get_return plan v hold c inside x i =
    hold x (In-append_right (flat_map (λ (entry : ℕ × Class). class_rows get_return plan v entry.0 entry.1) (enumerate_from 0 plan.classes))
    (In-flat_map (λ (entry : ℕ × Client). client_rows get_return plan v entry.0 entry.1) (numbered_client plan c inside) i))

-- if all rows of a vector hold, the inequalities of each class's body hold; the body of a class that does not exist is empty
class_body_laws : (get_return : GetReturn) (plan : Plan) (v : Vector) → AllHold (rows get_return plan v) → (k : ℕ) → BodyLaws get_return plan v (job_weight v k) (class_at plan k).body
class_body_laws get_return plan v hold k = elim (cases_lt k (length plan.classes)) [
  | inl inside ↦ body_laws get_return plan v (job_weight v k) (place.ClassAction k) (class_at plan k).body (λ x i. class_holds get_return plan v hold k inside x (there (In-append_left _ i)))
  | inr past ↦ subst (λ (class : Class). BodyLaws get_return plan v (job_weight v k) class.body) (sym (get_or_past plan.classes k no_class past)) (no_body_laws get_return plan v (job_weight v k))
]

-- if all rows of a vector hold, the inequalities of each client kind's body hold; the body of a kind that does not exist is empty
client_body_laws : (get_return : GetReturn) (plan : Plan) (v : Vector) → AllHold (rows get_return plan v) → (c : ℕ) → BodyLaws get_return plan v (client_weight v c) (client_at plan c).body
client_body_laws get_return plan v hold c = elim (cases_lt c (length plan.clients)) [
  | inl inside ↦ body_laws get_return plan v (client_weight v c) (place.ClientAction c) (client_at plan c).body (λ x i. client_holds get_return plan v hold c inside x (In-append_left _ i))
  | inr past ↦ subst (λ (client : Client). BodyLaws get_return plan v (client_weight v c) client.body) (sym (get_or_past plan.clients c no_client past)) (no_body_laws get_return plan v (client_weight v c))
]

-- a client kind that repeats exists
repeating_client : (plan : Plan) (c : ℕ) → (client_at plan c).repeat ≡ true → c < length plan.clients
repeating_client plan c repeats = elim (cases_lt c (length plan.clients)) [
  | inl inside ↦ inside
  | inr past ↦
      let not : (client_at plan c).repeat ≡ false = ap (λ (client : Client). client.repeat) (get_or_past plan.clients c no_client past) in
      absurd cc
]

-- V7: the weight of a client at the end of its body is at least its weight at the start, if its kind repeats
client_loops : (get_return : GetReturn) (plan : Plan) (v : Vector) → AllHold (rows get_return plan v) → (c : ℕ) → (client_at plan c).repeat ≡ true → client_weight v c 0 ≤ client_weight v c (length (client_at plan c).body)
client_loops get_return plan v hold c repeats =
    let body = (client_at plan c).body in
    let last = row V7 (place.Client c) (client_weight v c 0) (client_weight v c (length body)) in
    client_holds get_return plan v hold c (repeating_client plan c repeats) last
    (In-append_right (body_rows get_return plan v (client_weight v c) (place.ClientAction c) body) (subst (λ b. In last (cond b (last ∷ []) [])) (sym repeats) here))

-- if all rows of a vector hold, all inequalities of the vector hold
pub vector_laws : (get_return : GetReturn) (plan : Plan) (v : Vector) → AllHold (rows get_return plan v) → VectorLaws get_return plan v
vector_laws get_return plan v hold = record {
  classes = class_body_laws get_return plan v hold;
  clients = client_body_laws get_return plan v hold;
  begins = λ k inside. class_holds get_return plan v hold k inside _ here;
  ends = λ k inside. class_holds get_return plan v hold k inside _ (there (In-append_right (body_rows get_return plan v (job_weight v k) (place.ClassAction k) (class_at plan k).body) here));
  loops = client_loops get_return plan v hold;
}
