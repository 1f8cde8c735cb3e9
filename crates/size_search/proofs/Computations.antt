-- The values that the loops over a body compute.
use Rattle.std.proofs.Common.{◌≡◌, ℕ, zero, suc, ◌+◌, ◌-◌, ◌*◌, ◌<◌, ◌≤◌, max, Bool, true, false, cond, List, [], ◌∷◌, ◌++◌, length, drop, reverse, get_or, slice_get, Option, Some, None, refl, sym, ap, ◌∙◌, arith}
use Rattle.std.proofs.lemmas.List.{reverse-append, length-drop}
use Rattle.std.proofs.lemmas.Option.{slice_get-get_or}
use Rattle.job_bodies.specs.declared.action.Action.{Action}
use Rattle.job_bodies.specs.declared.action.Action.TheVariants.{Work, Submit, Get}
use Rattle.job_bodies.specs.declared.limits.TheConstants.{MAX_ACTIONS, MAX_WEIGHT}
use Rattle.job_bodies.specs.Plan.{Plan, submitted_class, has_get_of}
use Rattle.job_bodies.specs.ValidBody.{IsValidBody}
use Rattle.weights.specs.Vector.{Vector, queued_weight, done_weight}
use Rattle.size_search.specs.Small.{JobsAreSmall}
use Rattle.size_search.specs.Steady.{sum_below, greatest_upto, submitted_weight, awaited_weight, open_weight, weight_at, weights_from}
use Rattle.size_search.proofs.Opened.{rest_at, open-work, open-submit, open-get}

-- ---- open jobs

next : {X : Type 0} (f : ℕ → X) (i : ℕ) → f (i + 1) ≡ f (suc i)
next f i = let number : i + 1 ≡ suc i = omega arith in ap f number

pub open_weight_after-work : (v : Vector) (body : List Action) (i u : ℕ) → slice_get body i ≡ Some (Work u) → open_weight v body i ≡ open_weight v body (i + 1)
open_weight_after-work v body i u at = sym (next (open_weight v body) i ∙ open-work v body i u at)

pub open_weight_after-submit : (plan : Plan) (v : Vector) (body : List Action) (i k : ℕ) → IsValidBody plan body → slice_get body i ≡ Some (Submit k) → has_get_of body i ≡ true → open_weight v body i + queued_weight v k ≡ open_weight v body (i + 1)
open_weight_after-submit plan v body i k valid at got =
    sym (next (open_weight v body) i ∙ (open-submit plan v body i k valid at ∙ ap (λ (b : Bool). open_weight v body i + cond b (queued_weight v k) 0) got))

pub not_opened : (plan : Plan) (v : Vector) (body : List Action) (i k : ℕ) → IsValidBody plan body → slice_get body i ≡ Some (Submit k) → has_get_of body i ≡ false → open_weight v body i ≡ open_weight v body (i + 1)
not_opened plan v body i k valid at not_got =
    let same : open_weight v body (suc i) ≡ open_weight v body i + 0 = open-submit plan v body i k valid at ∙ ap (λ (b : Bool). open_weight v body i + cond b (queued_weight v k) 0) not_got in
    omega (arith, same, next (open_weight v body) i)

pub closed-get : (plan : Plan) (v : Vector) (body : List Action) (i t : ℕ) → IsValidBody plan body → slice_get body i ≡ Some (Get t) → open_weight v body (i + 1) + queued_weight v (submitted_class body t) ≡ open_weight v body i
closed-get plan v body i t valid at = ap (λ (n : ℕ). n + queued_weight v (submitted_class body t)) (next (open_weight v body) i) ∙ open-get plan v body i t valid at

pub greatest-next : (f : ℕ → ℕ) (i : ℕ) → max (greatest_upto f i) (f (i + 1)) ≡ greatest_upto f (i + 1)
greatest-next f i = ap (max (greatest_upto f i)) (next f i) ∙ sym (next (greatest_upto f) i)

-- ---- bounds

sum_below-bound : (f : ℕ → ℕ) (n b : ℕ) → ((s : ℕ) → f s ≤ b) → sum_below f n ≤ n * b
sum_below-bound f zero b each = omega arith
sum_below-bound f (suc n) b each =
    let step : sum_below f (suc n) ≡ sum_below f n + f n = refl in
    omega (arith, step, each n, sum_below-bound f n b each)

greatest-bound : (f : ℕ → ℕ) (n b : ℕ) → ((i : ℕ) → i ≤ n → f i ≤ b) → greatest_upto f n ≤ b
greatest-bound f zero b each = each 0 (omega arith)
greatest-bound f (suc n) b each =
    let step : greatest_upto f (suc n) ≡ max (greatest_upto f n) (f (suc n)) = refl in
    omega (arith, step, each (suc n) (omega arith), greatest-bound f n b (λ i within. each i (omega (arith, within))))

submitted-bound : (v : Vector) (x : Option Action) → JobsAreSmall v → submitted_weight v x ≤ MAX_WEIGHT
submitted-bound v (Some (Submit k)) small = small.small k 0
submitted-bound v (Some (Work u)) small = omega arith
submitted-bound v (Some (Get t)) small = omega arith
submitted-bound v None small = omega arith

cond-bound : (b : Bool) (n m : ℕ) → n ≤ m → cond b n 0 ≤ m
cond-bound true n m within = within
cond-bound false n m within = omega arith

pub open-bound : (v : Vector) (body : List Action) (i : ℕ) → JobsAreSmall v → open_weight v body i ≤ i * MAX_WEIGHT
open-bound v body i small = sum_below-bound (awaited_weight v body i) i MAX_WEIGHT (λ s. cond-bound (has_get_of (drop i body) s) (submitted_weight v (slice_get body s)) MAX_WEIGHT (submitted-bound v (slice_get body s) small))

pub greatest-open-bound : (plan : Plan) (v : Vector) (body : List Action) (n : ℕ) → IsValidBody plan body → JobsAreSmall v → n ≤ length body → greatest_upto (open_weight v body) n ≤ MAX_ACTIONS * MAX_WEIGHT
greatest-open-bound plan v body n valid small short = greatest-bound (open_weight v body) n (MAX_ACTIONS * MAX_WEIGHT) (λ i within. omega (arith, within, short, valid.short, open-bound v body i small))

pub weight-bound : (plan : Plan) (v : Vector) (least : ℕ) (body : List Action) (last : ℕ) (rest : List Action) → JobsAreSmall v → least ≤ 1 → weight_at plan v least body last rest ≤ 1 + last + length rest * MAX_WEIGHT
weight-bound plan v least body last [] small low = omega arith
weight-bound plan v least body last (Work u ∷ rest) small low =
    let step : weight_at plan v least body last (Work u ∷ rest) ≡ weight_at plan v least body last rest = refl in
    omega (arith, step, weight-bound plan v least body last rest small low)
weight-bound plan v least body last (Submit k ∷ rest) small low =
    let step : weight_at plan v least body last (Submit k ∷ rest) ≡ weight_at plan v least body last rest + queued_weight v k = refl in
    omega (arith, step, small.small k 0, weight-bound plan v least body last rest small low)
weight-bound plan v least body last (Get t ∷ rest) small low =
    let step : weight_at plan v least body last (Get t ∷ rest) ≡ max least (weight_at plan v least body last rest - done_weight plan v (submitted_class body t)) = refl in
    omega (arith, step, low, weight-bound plan v least body last rest small low)

-- ---- weights, from the end of a body

-- the suffix of a body from a position is the action at this position, followed by the suffix from the next position
pub longer_rest : (body : List Action) (behind position : ℕ) (x : Action) → behind < length body → position ≡ length body - 1 - behind → slice_get body position ≡ Some x → drop (length body - (behind + 1)) body ≡ x ∷ drop (length body - behind) body
longer_rest body behind position x inside is at =
    let first : length body - (behind + 1) ≡ position = omega (arith, inside, is) in
    let second : suc position ≡ length body - behind = omega (arith, inside, is) in
    ap (λ (n : ℕ). drop n body) first ∙ (rest_at body position x at ∙ ap (λ (n : ℕ). x ∷ drop n body) second)

pub reverse-cons : {X : Type 0} (x : X) (xs : List X) → reverse (x ∷ xs) ≡ reverse xs ++ x ∷ []
reverse-cons x xs = reverse-append (x ∷ []) xs

-- ---- contracts

pub at_position : (body : List Action) (i : ℕ) (x : Action) → i < length body → get_or body i (Work 0) ≡ x → slice_get body i ≡ Some x
at_position body i x inside is = slice_get-get_or body i (Work 0) inside ∙ ap Some is

pub first-weight : (plan : Plan) (v : Vector) (least : ℕ) (body : List Action) (last : ℕ) (rest : List Action) → get_or (weights_from plan v least body last rest) 0 0 ≡ weight_at plan v least body last rest
first-weight plan v least body last [] = refl
first-weight plan v least body last (x ∷ rest) = refl

pub behind-short : (body : List Action) (plan : Plan) (n : ℕ) → IsValidBody plan body → length (drop n body) ≤ MAX_ACTIONS
behind-short body plan n valid = omega (arith, length-drop n body, valid.short)
