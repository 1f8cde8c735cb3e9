-- If each job that an actor submits weighs as much done as queued, the weight of the actor and of its open jobs together is the same at
-- each position: the actor's weight at the end of its body.
use Rattle.std.proofs.Common.{◌≡◌, ℕ, zero, suc, ◌+◌, ◌-◌, ◌<◌, ◌≤◌, max, Bool, true, cond, List, [], ◌∷◌, length, drop, get_or, slice_get, Option, Some, None, refl, sym, ap, subst, ◌∙◌, arith}
use Rattle.std.proofs.Math.Seq.{drop-length}
use Rattle.std.proofs.lemmas.Bool.{false≢true}
use Rattle.std.proofs.lemmas.Option.{slice_get-get_or}
use Rattle.job_bodies.specs.declared.action.Action.{Action}
use Rattle.job_bodies.specs.declared.action.Action.TheVariants.{Work, Submit, Get}
use Rattle.job_bodies.specs.Plan.{Plan, submits, class_of_submit, submitted_class, has_get_of}
use Rattle.job_bodies.specs.ValidBody.{IsValidBody}
use Rattle.weights.specs.Vector.{Vector, queued_weight, done_weight}
use Rattle.size_search.specs.Steady.{open_weight, most, weight_at, weights_from}
use Rattle.size_search.proofs.Sums.{le-greatest}
use Rattle.size_search.proofs.Opened.{rest_at, open-start, open-end, open-work, open-submit, open-get}

-- each job that the body submits is got, and weighs as much done as queued
pub record GivesAllBack (plan : Plan) (v : Vector) (body : List Action) : Type 0 where
  pub got : (i k : ℕ) → slice_get body i ≡ Some (Submit k) → has_get_of body i ≡ true
  pub same : (i k : ℕ) → slice_get body i ≡ Some (Submit k) → done_weight plan v k ≡ queued_weight v k

-- an action that is a submit is the submit of its class
is_the_submit : (x : Option Action) → submits x ≡ true → x ≡ Some (Submit (class_of_submit x))
is_the_submit (Some (Submit k)) is_submit = refl
is_the_submit (Some (Work u)) is_submit = absurd (false≢true is_submit)
is_the_submit (Some (Get t)) is_submit = absurd (false≢true is_submit)
is_the_submit None is_submit = absurd (false≢true is_submit)

pub submit_of : (body : List Action) (t : ℕ) → submits (slice_get body t) ≡ true → slice_get body t ≡ Some (Submit (submitted_class body t))
submit_of body t is_submit = is_the_submit (slice_get body t) is_submit

-- ---- the list of weights

-- the number at index i of the list of weights is the weight at the start of the suffix of the body from i on
pub weights-at : (plan : Plan) (v : Vector) (least : ℕ) (body : List Action) (last : ℕ) (rest : List Action) (i : ℕ) → i ≤ length rest → get_or (weights_from plan v least body last rest) i 0 ≡ weight_at plan v least body last (drop i rest)
weights-at plan v least body last [] i within =
    let is : i ≡ 0 = omega (arith, within) in
    subst (λ (j : ℕ). get_or (weights_from plan v least body last []) j 0 ≡ weight_at plan v least body last (drop j [])) (sym is) refl
weights-at plan v least body last (x ∷ rest) zero within = refl
weights-at plan v least body last (x ∷ rest) (suc i) within = weights-at plan v least body last rest i (omega (arith, within))

pub weights-length : (plan : Plan) (v : Vector) (least : ℕ) (body : List Action) (last : ℕ) (rest : List Action) → length (weights_from plan v least body last rest) ≡ length rest + 1
weights-length plan v least body last [] = refl
weights-length plan v least body last (x ∷ rest) = let longer = weights-length plan v least body last rest in omega arith

-- no weight is below `least`
pub least-le : (plan : Plan) (v : Vector) (least : ℕ) (body : List Action) (last : ℕ) (rest : List Action) → least ≤ last → least ≤ weight_at plan v least body last rest
least-le plan v least body last [] enough = enough
least-le plan v least body last (Work u ∷ rest) enough = least-le plan v least body last rest enough
least-le plan v least body last (Submit k ∷ rest) enough =
    let step : weight_at plan v least body last (Submit k ∷ rest) ≡ weight_at plan v least body last rest + queued_weight v k = refl in
    omega (arith, step, least-le plan v least body last rest enough)
least-le plan v least body last (Get t ∷ rest) enough =
    let step : weight_at plan v least body last (Get t ∷ rest) ≡ max least (weight_at plan v least body last rest - done_weight plan v (submitted_class body t)) = refl in
    omega (arith, step)

-- ---- the balance

-- if the weight of an actor and of its open jobs together is `last` after an action, it is `last` before the action
before_action : (plan : Plan) (v : Vector) (least : ℕ) (body : List Action) (last : ℕ) → IsValidBody plan body → GivesAllBack plan v body → most v body + least ≤ last → (i : ℕ) → i < length body
    → weight_at plan v least body last (drop (suc i) body) + open_weight v body (suc i) ≡ last → weight_at plan v least body last (drop i body) + open_weight v body i ≡ last
before_action plan v least body last valid back enough i inside behind = by_action (get_or body i (Work 0)) (slice_get-get_or body i (Work 0) inside)
  where
    by_action : (x : Action) → slice_get body i ≡ Some x → weight_at plan v least body last (drop i body) + open_weight v body i ≡ last
    by_action (Work u) is_work =
        let step : weight_at plan v least body last (drop i body) ≡ weight_at plan v least body last (drop (suc i) body) = ap (weight_at plan v least body last) (rest_at body i (Work u) is_work) in
        omega (arith, step, behind, open-work v body i u is_work)
    by_action (Submit k) is_submit =
        let step : weight_at plan v least body last (drop i body) ≡ weight_at plan v least body last (drop (suc i) body) + queued_weight v k = ap (weight_at plan v least body last) (rest_at body i (Submit k) is_submit) in
        let opens : open_weight v body (suc i) ≡ open_weight v body i + queued_weight v k =
        open-submit plan v body i k valid is_submit ∙ ap (λ (b : Bool). open_weight v body i + cond b (queued_weight v k) 0) (back.got i k is_submit) in
        omega (arith, step, behind, opens)
    by_action (Get t) is_get =
        let k = submitted_class body t in
        let step : weight_at plan v least body last (drop i body) ≡ max least (weight_at plan v least body last (drop (suc i) body) - done_weight plan v k) = ap (weight_at plan v least body last) (rest_at body i (Get t) is_get) in
        let same = back.same t k (submit_of body t (valid.of_submit i t is_get)) in
        omega (arith, step, behind, same, open-get plan v body i t valid is_get, le-greatest (open_weight v body) (length body) i (omega (arith, inside)), enough)

pub balance : (plan : Plan) (v : Vector) (least : ℕ) (body : List Action) (last : ℕ) → IsValidBody plan body → GivesAllBack plan v body → most v body + least ≤ last → (n i : ℕ) → i + n ≡ length body
    → weight_at plan v least body last (drop i body) + open_weight v body i ≡ last
balance plan v least body last valid back enough zero i at =
    let here : i ≡ length body = omega (arith, at) in
    let rest : weight_at plan v least body last (drop (length body) body) ≡ last = ap (weight_at plan v least body last) (drop-length body) in
    subst (λ (j : ℕ). weight_at plan v least body last (drop j body) + open_weight v body j ≡ last) (sym here) (omega (arith, rest, open-end v body))
balance plan v least body last valid back enough (suc n) i at =
    before_action plan v least body last valid back enough i (omega (arith, at)) (balance plan v least body last valid back enough n (suc i) (omega (arith, at)))

-- an actor that gets back the weight of all its jobs has the same weight at the start of its body as at the end
pub begins_as_it_ends : (plan : Plan) (v : Vector) (least : ℕ) (body : List Action) (last : ℕ) → IsValidBody plan body → GivesAllBack plan v body → most v body + least ≤ last → weight_at plan v least body last body ≡ last
begins_as_it_ends plan v least body last valid back enough =
    let all = balance plan v least body last valid back enough (length body) 0 (omega arith) in
    omega (arith, all, open-start v body)
