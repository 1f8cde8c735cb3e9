-- The rows of the steady vector follow from that vector itself.
use Rattle.std.proofs.Common.{◌≡◌, ℕ, zero, suc, ◌+◌, ◌-◌, ◌<◌, ◌≤◌, max, cond, List, [], ◌∷◌, ◌++◌, length, drop, get_or, slice_get, Option, Some, None, refl, sym, ap, ap₂, ◌∙◌, arith}
use Rattle.std.proofs.lemmas.List.{get_or-map, get_or_append_left}
use Rattle.std.proofs.Math.Seq.{get_or-append_seam}
use Rattle.support.specs.In.{In, here, there}
use Rattle.support.proofs.Members.{In-slice_get}
use Rattle.job_bodies.specs.declared.action.Action.{Action}
use Rattle.job_bodies.specs.declared.action.Action.TheVariants.{Work, Submit, Get}
use Rattle.job_bodies.specs.Plan.{Class, Client, Plan, no_class, no_client, class_at, client_at, submitted_class, has_get_of}
use Rattle.job_bodies.specs.ValidBody.{IsValidBody}
use Rattle.job_bodies.proofs.Bodies.{HasValidBodies}
use Rattle.weights.specs.Vector.{Vector, class_weights, queued_weight, job_weight, done_weight, client_weights, client_weight}
use Rattle.size_search.specs.Submitted.{NoCircle}
use Rattle.size_search.specs.Steady.{submitted_weight, awaited_weight, open_weight, most, weight_at, weights_from, job_end, class_row, client_end, client_row, jobs_within, jobs, steady_vector, steady_levels}
use Rattle.size_search.proofs.Sums.{sum_below-agree, greatest-agree}
use Rattle.size_search.proofs.Opened.{place_in}
use Rattle.size_search.proofs.Balance.{submit_of, weights-at, weights-length}
use Rattle.size_search.proofs.Depths.{shallow, levels_sink}

-- ---- the weights of a body depend only on the classes that it submits

-- both vectors give the same weights to the classes that the body submits
pub record WeighTheSame (v w : Vector) (body : List Action) : Type 0 where
  pub rows : (k : ℕ) → In (Submit k) body → class_weights v k ≡ class_weights w k

queued-agree : (v w : Vector) (k : ℕ) → class_weights v k ≡ class_weights w k → queued_weight v k ≡ queued_weight w k
queued-agree v w k same = ap (λ (row : List ℕ). get_or row 0 0) same

done-agree : (plan : Plan) (v w : Vector) (k : ℕ) → class_weights v k ≡ class_weights w k → done_weight plan v k ≡ done_weight plan w k
done-agree plan v w k same = ap (λ (row : List ℕ). get_or row (length (class_at plan k).body + 2) 0) same

submitted-agree : (v w : Vector) (body : List Action) (s : ℕ) (x : Option Action) → WeighTheSame v w body → slice_get body s ≡ x → submitted_weight v x ≡ submitted_weight w x
submitted-agree v w body s (Some (Submit k)) same at = queued-agree v w k (same.rows k (In-slice_get body s (Submit k) at))
submitted-agree v w body s (Some (Work u)) same at = refl
submitted-agree v w body s (Some (Get t)) same at = refl
submitted-agree v w body s None same at = refl

most-agree : (v w : Vector) (body : List Action) → WeighTheSame v w body → most v body ≡ most w body
most-agree v w body same =
    greatest-agree (open_weight v body) (open_weight w body) (length body)
    (λ i. sum_below-agree (awaited_weight v body i) (awaited_weight w body i) i
    (λ s below. ap (λ (n : ℕ). cond (has_get_of (drop i body) s) n 0) (submitted-agree v w body s (slice_get body s) same refl)))

-- each action of the list `rest` is an action of the body
record IsRest (rest body : List Action) : Type 0 where
  among : (x : Action) → In x rest → In x body

weight_at-agree : (plan : Plan) (v w : Vector) (least : ℕ) (body : List Action) (last : ℕ) (rest : List Action) → IsValidBody plan body → WeighTheSame v w body → IsRest rest body
    → weight_at plan v least body last rest ≡ weight_at plan w least body last rest
weight_at-agree plan v w least body last [] valid same part = refl
weight_at-agree plan v w least body last (Work u ∷ rest) valid same part = weight_at-agree plan v w least body last rest valid same (record { among = λ x at. part.among x (there at) })
weight_at-agree plan v w least body last (Submit k ∷ rest) valid same part =
    ap₂ (λ (m n : ℕ). m + n) (weight_at-agree plan v w least body last rest valid same (record { among = λ x at. part.among x (there at) })) (queued-agree v w k (same.rows k (part.among (Submit k) here)))
weight_at-agree plan v w least body last (Get t ∷ rest) valid same part =
    let place = place_in (part.among (Get t) here) in
    let names = submit_of body t (valid.of_submit place.0 t place.1) in
    ap₂ (λ (m n : ℕ). max least (m - n)) (weight_at-agree plan v w least body last rest valid same (record { among = λ x at. part.among x (there at) }))
    (done-agree plan v w (submitted_class body t) (same.rows (submitted_class body t) (In-slice_get body t (Submit (submitted_class body t)) names)))

weights_from-agree : (plan : Plan) (v w : Vector) (least : ℕ) (body : List Action) (last : ℕ) (rest : List Action) → IsValidBody plan body → WeighTheSame v w body → IsRest rest body
    → weights_from plan v least body last rest ≡ weights_from plan w least body last rest
weights_from-agree plan v w least body last [] valid same part = refl
weights_from-agree plan v w least body last (x ∷ rest) valid same part =
    ap₂ (λ (n : ℕ) (ns : List ℕ). n ∷ ns) (weight_at-agree plan v w least body last (x ∷ rest) valid same part)
    (weights_from-agree plan v w least body last rest valid same (record { among = λ y at. part.among y (there at) }))

whole : (body : List Action) → IsRest body body
whole body = record { among = λ x at. at }

pub class_row-agree : (plan : Plan) (v w : Vector) (body : List Action) → IsValidBody plan body → WeighTheSame v w body → class_row plan v body ≡ class_row plan w body
class_row-agree plan v w body valid same =
    ap₂ (λ (n : ℕ) (ns : List ℕ). n ∷ (ns ++ job_end v body ∷ []))
    (weight_at-agree plan v w 1 body (job_end v body) body valid same (whole body))
    (weights_from-agree plan v w 1 body (job_end v body) body valid same (whole body))
    ∙ ap (λ (n : ℕ). weight_at plan w 1 body (n + 1) body ∷ (weights_from plan w 1 body (n + 1) body ++ (n + 1) ∷ [])) (most-agree v w body same)

pub client_row-agree : (plan : Plan) (v w : Vector) (client : Client) → IsValidBody plan client.body → WeighTheSame v w client.body → client_row plan v client ≡ client_row plan w client
client_row-agree plan v w client valid same =
    weights_from-agree plan v w 0 client.body (client_end v client) client.body valid same (whole client.body)
    ∙ ap (λ (n : ℕ). weights_from plan w 0 client.body (cond client.repeat n 0) client.body) (most-agree v w client.body same)

-- ---- further rounds do not change the rows

row-step : (plan : Plan) (n k : ℕ) → k < length plan.classes → class_weights (jobs_within plan (suc n)) k ≡ class_row plan (jobs_within plan n) (class_at plan k).body
row-step plan n k inside = get_or-map (λ (class : Class). class_row plan (jobs_within plan n) class.body) plan.classes k no_class [] inside

row_is_final : (plan : Plan) → HasValidBodies plan → NoCircle plan → (n k : ℕ) → k < length plan.classes → get_or (steady_levels plan) k 0 < n → class_weights (jobs_within plan (suc n)) k ≡ class_weights (jobs_within plan n) k
row_is_final plan ordered none zero k inside low = absurd (omega (arith, low))
row_is_final plan ordered none (suc n) k inside low =
    let valid = ordered.classes k in
    let same : WeighTheSame (jobs_within plan (suc n)) (jobs_within plan n) (class_at plan k).body = record {
      rows = λ j at.
          let place = place_in at in
          row_is_final plan ordered none n j (valid.submit place.0 j place.1) (omega (arith, low, levels_sink plan ordered none k j at));
    } in
    row-step plan (suc n) k inside ∙ (class_row-agree plan (jobs_within plan (suc n)) (jobs_within plan n) (class_at plan k).body valid same ∙ sym (row-step plan n k inside))

-- ---- each row follows from the vector itself

pub class_is : (plan : Plan) → HasValidBodies plan → NoCircle plan → (k : ℕ) → k < length plan.classes → class_weights (steady_vector plan) k ≡ class_row plan (steady_vector plan) (class_at plan k).body
class_is plan ordered none k inside =
    sym (row_is_final plan ordered none (length plan.classes) k inside (shallow plan ordered none k inside))
    ∙ (row-step plan (length plan.classes) k inside
    ∙ class_row-agree plan (jobs plan) (steady_vector plan) (class_at plan k).body (ordered.classes k) (record { rows = λ j at. refl }))

pub client_is : (plan : Plan) → HasValidBodies plan → (c : ℕ) → c < length plan.clients → client_weights (steady_vector plan) c ≡ client_row plan (steady_vector plan) (client_at plan c)
client_is plan ordered c inside =
    get_or-map (client_row plan (jobs plan)) plan.clients c no_client [] inside
    ∙ client_row-agree plan (jobs plan) (steady_vector plan) (client_at plan c) (ordered.clients c) (record { rows = λ j at. refl })

-- ---- the numbers of the rows

-- the weights of the jobs of class k
pub record IsClassRow (plan : Plan) (v : Vector) (k : ℕ) : Type 0 where
  pub queued : queued_weight v k ≡ weight_at plan v 1 (class_at plan k).body (job_end v (class_at plan k).body) (class_at plan k).body
  pub position : (i : ℕ) → i ≤ length (class_at plan k).body → job_weight v k i ≡ weight_at plan v 1 (class_at plan k).body (job_end v (class_at plan k).body) (drop i (class_at plan k).body)
  pub done : done_weight plan v k ≡ job_end v (class_at plan k).body

pub class_numbers : (plan : Plan) (v : Vector) (k : ℕ) → class_weights v k ≡ class_row plan v (class_at plan k).body → IsClassRow plan v k
class_numbers plan v k is = record { queued = ap (λ (row : List ℕ). get_or row 0 0) is; position = position; done = done }
  where
    position : (i : ℕ) → i ≤ length (class_at plan k).body → job_weight v k i ≡ weight_at plan v 1 (class_at plan k).body (job_end v (class_at plan k).body) (drop i (class_at plan k).body)
    position i within =
        let body = (class_at plan k).body in
        let middle = weights_from plan v 1 body (job_end v body) body in
        let number : i + 1 ≡ suc i = omega arith in
        let long = weights-length plan v 1 body (job_end v body) body in
        ap (λ (row : List ℕ). get_or row (i + 1) 0) is
        ∙ (ap (λ (n : ℕ). get_or (class_row plan v body) n 0) number
        ∙ (get_or_append_left middle (job_end v body ∷ []) 0 i (omega (arith, long, within))
        ∙ weights-at plan v 1 body (job_end v body) body i within))

    done : done_weight plan v k ≡ job_end v (class_at plan k).body
    done =
        let body = (class_at plan k).body in
        let middle = weights_from plan v 1 body (job_end v body) body in
        let long = weights-length plan v 1 body (job_end v body) body in
        let number : length body + 2 ≡ suc (length middle) = omega (arith, long) in
        ap (λ (row : List ℕ). get_or row (length body + 2) 0) is
        ∙ (ap (λ (n : ℕ). get_or (class_row plan v body) n 0) number
        ∙ get_or-append_seam middle (job_end v body) [] 0)

-- the weights of the clients of kind c
pub client_numbers : (plan : Plan) (v : Vector) (c i : ℕ) → client_weights v c ≡ client_row plan v (client_at plan c) → i ≤ length (client_at plan c).body
    → client_weight v c i ≡ weight_at plan v 0 (client_at plan c).body (client_end v (client_at plan c)) (drop i (client_at plan c).body)
client_numbers plan v c i is within =
    let client = client_at plan c in
    ap (λ (row : List ℕ). get_or row i 0) is ∙ weights-at plan v 0 client.body (client_end v client) client.body i within
