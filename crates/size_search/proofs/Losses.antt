-- The weight that an actor loses over its body: at each submit the weight of the queued job, minus what its get returns.
use Rattle.std.proofs.Common.{◌≡◌, ℕ, zero, suc, ◌+◌, ◌-◌, ◌<◌, ◌≤◌, Bool, true, false, ◌||◌, ⊎_elim, List, length, slice_get, Option, Some, None, refl, sym, ap, subst, ◌∙◌, arith}
use Rattle.std.proofs.lemmas.Bool.{false≢true, false_from_ne_true, both_ways, or_cases, or_left, eqb-true, eq-eqb, cases_lt}
use Rattle.std.proofs.lemmas.Option.{slice_get_within, slice_get-get_or}
use Rattle.support.proofs.Members.{In-slice_get, list_any_at_In}
use Rattle.job_bodies.specs.declared.action.Action.{Action}
use Rattle.job_bodies.specs.declared.action.Action.TheVariants.{Work, Submit, Get}
use Rattle.job_bodies.specs.Plan.{Plan, submits, class_of_submit, submitted_class, gets, has_get_of}
use Rattle.job_bodies.specs.ValidBody.{IsValidBody}
use Rattle.weights.specs.declared.get_return.GetReturn.{GetReturn}
use Rattle.weights.specs.Vector.{Vector, queued_weight}
use Rattle.weights.specs.GetReturn.{returned_weight}
use Rattle.soundness.proofs.VectorLaws.{BodyLaws}

-- ---- sums over the positions below n

abbrev sum_below : (ℕ → ℕ) → ℕ → ℕ
sum_below f zero = 0
sum_below f (suc n) = sum_below f n + f n

sum_below-le : (f g : ℕ → ℕ) (n : ℕ) → ((s : ℕ) → f s ≤ g s) → sum_below f n ≤ sum_below g n
sum_below-le f g zero each =
    let of_f : sum_below f 0 ≡ 0 = refl in
    omega (arith, of_f)
sum_below-le f g (suc n) each =
    let of_f : sum_below f (suc n) ≡ sum_below f n + f n = refl in
    let of_g : sum_below g (suc n) ≡ sum_below g n + g n = refl in
    omega (arith, of_f, of_g, each n, sum_below-le f g n each)

-- if the term at t is smaller by some amount and no term is larger, the sum is smaller by at least this amount
sum_below-le-at : (f g : ℕ → ℕ) (n t less : ℕ) → t < n → ((s : ℕ) → f s ≤ g s) → f t + less ≤ g t → sum_below f n + less ≤ sum_below g n
sum_below-le-at f g zero t less inside each at = absurd (omega (arith, inside))
sum_below-le-at f g (suc n) t less inside each at =
    let of_f : sum_below f (suc n) ≡ sum_below f n + f n = refl in
    let of_g : sum_below g (suc n) ≡ sum_below g n + g n = refl in
    ⊎_elim (λ (before : t < n). omega (arith, of_f, of_g, each n, sum_below-le-at f g n t less before each at))
    (λ (past : n ≤ t).
    let last : t ≡ n = omega (arith, inside, past) in
    let here : f n + less ≤ g n = subst (λ (s : ℕ). f s + less ≤ g s) last at in
    omega (arith, of_f, of_g, here, sum_below-le f g n each))
    (cases_lt t n)

-- no term is above the sum
term-le-sum : (f : ℕ → ℕ) (n t : ℕ) → t < n → f t ≤ sum_below f n
term-le-sum f n t inside =
    let at : 0 + f t ≤ f t = omega arith in
    omega (arith, sum_below-le-at (λ s. 0) f n t (f t) inside (λ s. omega arith) at)

-- ---- the submits that were got so far

abbrev gets_at : ℕ → Option Action → Bool
gets_at s (Some x) = gets s x
gets_at s None = false

-- an action before position n gets the submit at position s
abbrev got_before : List Action → ℕ → ℕ → Bool
got_before body zero s = false
got_before body (suc n) s = gets_at s (slice_get body n) || got_before body n s

record IsGotBefore (body : List Action) (n s : ℕ) : Type 0 where
  position : ℕ
  before : position < n
  is_get : slice_get body position ≡ Some (Get s)

is_that_get : (s : ℕ) (x : Option Action) → gets_at s x ≡ true → x ≡ Some (Get s)
is_that_get s (Some (Get t)) passes = ap (λ (u : ℕ). Some (Get u)) (sym (eqb-true s t passes))
is_that_get s (Some (Work u)) passes = absurd (false≢true passes)
is_that_get s (Some (Submit k)) passes = absurd (false≢true passes)
is_that_get s None passes = absurd (false≢true passes)

got_from : (body : List Action) (n s : ℕ) → got_before body n s ≡ true → IsGotBefore body n s
got_from body zero s passes = absurd (false≢true passes)
got_from body (suc n) s passes =
    ⊎_elim (λ now. record { position = n; before = omega arith; is_get = is_that_get s (slice_get body n) now })
    (λ earlier. let found = got_from body n s earlier in record { position = found.position; before = omega (arith, found.before); is_get = found.is_get })
    (or_cases (gets_at s (slice_get body n)) (got_before body n s) passes)

-- if no action of the body gets the submit at position s, no action before position n does
not_got_before : (body : List Action) (n s : ℕ) → has_get_of body s ≡ false → got_before body n s ≡ false
not_got_before body n s not_got =
    false_from_ne_true (got_before body n s)
    (λ passes.
    let found = got_from body n s passes in
    both_ways (has_get_of body s) not_got (list_any_at_In (gets s) (In-slice_get body found.position (Get s) found.is_get) (eq-eqb s s refl)))

-- ---- the cost of submits

-- the cost of a submit of class k: the weight that its actor loses by it, with or without its get
abbrev price : GetReturn → Plan → Vector → ℕ → Bool → ℕ
price get_return plan v k true = queued_weight v k - returned_weight get_return plan v k
price get_return plan v k false = queued_weight v k

abbrev cost : GetReturn → Plan → Vector → Bool → Option Action → ℕ
cost get_return plan v got (Some (Submit k)) = price get_return plan v k got
cost get_return plan v got (Some (Work u)) = 0
cost get_return plan v got (Some (Get t)) = 0
cost get_return plan v got None = 0

-- the cost, at position n, of the submit at position s: the weight of the queued job, minus what a get before n has returned
abbrev cost_at : GetReturn → Plan → Vector → List Action → ℕ → ℕ → ℕ
cost_at get_return plan v body n s = cost get_return plan v (got_before body n s) (slice_get body s)

-- the cost of a submit does not rise at later positions
price-or : (get_return : GetReturn) (plan : Plan) (v : Vector) (k : ℕ) (now before : Bool) → price get_return plan v k (now || before) ≤ price get_return plan v k before
price-or get_return plan v k false before = le-refl (price get_return plan v k before)
  where
    le-refl : (n : ℕ) → n ≤ n
    le-refl n = omega arith
price-or get_return plan v k true true =
    let same : price get_return plan v k (true || true) ≡ price get_return plan v k true = refl in
    omega (arith, same)
price-or get_return plan v k true false =
    let got : price get_return plan v k (true || false) ≡ queued_weight v k - returned_weight get_return plan v k = refl in
    let not_got : price get_return plan v k false ≡ queued_weight v k = refl in
    omega (arith, got, not_got)

none-le : 0 ≤ 0
none-le = omega arith

cost-or : (get_return : GetReturn) (plan : Plan) (v : Vector) (now before : Bool) (x : Option Action) → cost get_return plan v (now || before) x ≤ cost get_return plan v before x
cost-or get_return plan v now before (Some (Submit k)) = price-or get_return plan v k now before
cost-or get_return plan v now before (Some (Work u)) = none-le
cost-or get_return plan v now before (Some (Get t)) = none-le
cost-or get_return plan v now before None = none-le

cost_later : (get_return : GetReturn) (plan : Plan) (v : Vector) (body : List Action) (n s : ℕ) → cost_at get_return plan v body (suc n) s ≤ cost_at get_return plan v body n s
cost_later get_return plan v body n s = cost-or get_return plan v (gets_at s (slice_get body n)) (got_before body n s) (slice_get body s)

price-le : (get_return : GetReturn) (plan : Plan) (v : Vector) (k : ℕ) (got : Bool) → price get_return plan v k got ≤ queued_weight v k
price-le get_return plan v k true =
    let got : price get_return plan v k true ≡ queued_weight v k - returned_weight get_return plan v k = refl in
    omega (arith, got)
price-le get_return plan v k false =
    let not_got : price get_return plan v k false ≡ queued_weight v k = refl in
    omega (arith, not_got)

-- ---- the weight that an actor loses over its body

-- no job that the body submits returns more than it weighed when queued
abbrev pub NoneGains : GetReturn → Plan → Vector → List Action → Type 0
NoneGains get_return plan v body = (i k : ℕ) → slice_get body i ≡ Some (Submit k) → returned_weight get_return plan v k ≤ queued_weight v k

-- a submit names a class
pub class_submitted : (x : Option Action) → submits x ≡ true → (k : ℕ) × (x ≡ Some (Submit k))
class_submitted (Some (Submit k)) passes = (k, refl)
class_submitted (Some (Work u)) passes = absurd (false≢true passes)
class_submitted (Some (Get t)) passes = absurd (false≢true passes)
class_submitted None passes = absurd (false≢true passes)

-- a get returns at most the decrease of its submit's cost
get_pays : (get_return : GetReturn) (plan : Plan) (v : Vector) (body : List Action) (n t : ℕ) → IsValidBody plan body → NoneGains get_return plan v body → slice_get body n ≡ Some (Get t)
    → cost_at get_return plan v body (suc n) t + returned_weight get_return plan v (submitted_class body t) ≤ cost_at get_return plan v body n t
get_pays get_return plan v body n t valid gains is_get =
    let submitted = class_submitted (slice_get body t) (valid.of_submit n t is_get) in
    let k = submitted.0 in
    let names : submitted_class body t ≡ k = ap class_of_submit submitted.1 in
    let not_before : got_before body n t ≡ false = false_from_ne_true (got_before body n t)
    (λ passes. let found = got_from body n t passes in valid.once found.position n t found.before found.is_get is_get) in
    let now : gets_at t (slice_get body n) ≡ true = ap (gets_at t) is_get ∙ eq-eqb t t refl in
    let behind : got_before body (suc n) t ≡ true = or_left (gets_at t (slice_get body n)) (got_before body n t) now in
    let cost_before : cost_at get_return plan v body n t ≡ queued_weight v k =
    ap (λ (got : Bool). cost get_return plan v got (slice_get body t)) not_before ∙ ap (cost get_return plan v false) submitted.1 in
    let cost_behind : cost_at get_return plan v body (suc n) t ≡ queued_weight v k - returned_weight get_return plan v k =
    ap (λ (got : Bool). cost get_return plan v got (slice_get body t)) behind ∙ ap (cost get_return plan v true) submitted.1 in
    let given : returned_weight get_return plan v (submitted_class body t) ≡ returned_weight get_return plan v k = ap (returned_weight get_return plan v) names in
    omega (arith, cost_before, cost_behind, given, gains t k submitted.1)

-- the action at position n does not increase the sum of the actor's weight and the costs of its submits
step : (get_return : GetReturn) (plan : Plan) (v : Vector) (weight : ℕ → ℕ) (body : List Action) (n : ℕ) (x : Action) → IsValidBody plan body → BodyLaws get_return plan v weight body → NoneGains get_return plan v body → slice_get body n ≡ Some x
    → weight (suc n) + sum_below (cost_at get_return plan v body (suc n)) (suc n) ≤ weight n + sum_below (cost_at get_return plan v body n) n
step get_return plan v weight body n x valid laws gains at = by_action x at
  where
    old : ℕ → ℕ
    old = cost_at get_return plan v body n

    new : ℕ → ℕ
    new = cost_at get_return plan v body (suc n)

    one_more : sum_below new (suc n) ≡ sum_below new n + new n
    one_more = refl

    next : weight (suc n) ≡ weight (n + 1)
    next = let number : suc n ≡ n + 1 = omega arith in ap weight number

    later : sum_below new n ≤ sum_below old n
    later = sum_below-le new old n (cost_later get_return plan v body n)

    by_action : (y : Action) → slice_get body n ≡ Some y → weight (suc n) + sum_below new (suc n) ≤ weight n + sum_below old n
    by_action (Work u) is_work =
        let free : new n ≡ 0 = ap (cost get_return plan v (got_before body (suc n) n)) is_work in
        omega (arith, one_more, next, later, free, laws.work n u is_work)
    by_action (Submit k) is_submit =
        let paid : new n ≡ price get_return plan v k (got_before body (suc n) n) = ap (cost get_return plan v (got_before body (suc n) n)) is_submit in
        omega (arith, one_more, next, later, paid, price-le get_return plan v k (got_before body (suc n) n), laws.submit n k is_submit)
    by_action (Get t) is_get =
        let free : new n ≡ 0 = ap (cost get_return plan v (got_before body (suc n) n)) is_get in
        let pays = sum_below-le-at new old n t (returned_weight get_return plan v (submitted_class body t)) (valid.behind n t is_get) (cost_later get_return plan v body n) (get_pays get_return plan v body n t valid gains is_get) in
        omega (arith, one_more, next, free, pays, laws.get n t is_get)

-- an actor has lost at least the costs of its submits so far
lost_in_prefix : (get_return : GetReturn) (plan : Plan) (v : Vector) (weight : ℕ → ℕ) (body : List Action) (n : ℕ) → IsValidBody plan body → BodyLaws get_return plan v weight body → NoneGains get_return plan v body → n ≤ length body
    → weight n + sum_below (cost_at get_return plan v body n) n ≤ weight 0
lost_in_prefix get_return plan v weight body zero valid laws gains within =
    let none : sum_below (cost_at get_return plan v body 0) 0 ≡ 0 = refl in
    omega (arith, none)
lost_in_prefix get_return plan v weight body (suc n) valid laws gains within =
    let at = slice_get-get_or body n (Work 0) (omega (arith, within)) in
    omega (arith, step get_return plan v weight body n _ valid laws gains at, lost_in_prefix get_return plan v weight body n valid laws gains (omega (arith, within)))

-- an actor is not heavier at any position than at the start
pub lost_at_most : (get_return : GetReturn) (plan : Plan) (v : Vector) (weight : ℕ → ℕ) (body : List Action) (n : ℕ) → IsValidBody plan body → BodyLaws get_return plan v weight body → NoneGains get_return plan v body → n ≤ length body → weight n ≤ weight 0
lost_at_most get_return plan v weight body n valid laws gains within = omega (arith, lost_in_prefix get_return plan v weight body n valid laws gains within)

-- an actor is not heavier at the end of its body than at the start
pub never_heavier : (get_return : GetReturn) (plan : Plan) (v : Vector) (weight : ℕ → ℕ) (body : List Action) → IsValidBody plan body → BodyLaws get_return plan v weight body → NoneGains get_return plan v body → weight (length body) ≤ weight 0
never_heavier get_return plan v weight body valid laws gains = omega (arith, lost_in_prefix get_return plan v weight body (length body) valid laws gains (omega arith))

-- a submit with a positive cost makes its actor lighter at the end of the body than at the start
lost_by : (get_return : GetReturn) (plan : Plan) (v : Vector) (weight : ℕ → ℕ) (body : List Action) (i k : ℕ) → IsValidBody plan body → BodyLaws get_return plan v weight body → NoneGains get_return plan v body → slice_get body i ≡ Some (Submit k)
    → 1 ≤ price get_return plan v k (got_before body (length body) i) → weight (length body) < weight 0
lost_by get_return plan v weight body i k valid laws gains is_submit costs =
    let costs_at : cost_at get_return plan v body (length body) i ≡ price get_return plan v k (got_before body (length body) i) = ap (cost get_return plan v (got_before body (length body) i)) is_submit in
    let counted = term-le-sum (cost_at get_return plan v body (length body)) (length body) i (slice_get_within body i _ is_submit) in
    omega (arith, costs, costs_at, counted, lost_in_prefix get_return plan v weight body (length body) valid laws gains (omega arith))

-- a submit that is never got, of a class whose jobs have weight, makes its actor lighter at the end of the body
pub lost_without_get : (get_return : GetReturn) (plan : Plan) (v : Vector) (weight : ℕ → ℕ) (body : List Action) (i k : ℕ) → IsValidBody plan body → BodyLaws get_return plan v weight body → NoneGains get_return plan v body → slice_get body i ≡ Some (Submit k)
    → has_get_of body i ≡ false → 1 ≤ queued_weight v k → weight (length body) < weight 0
lost_without_get get_return plan v weight body i k valid laws gains is_submit not_got weighs =
    let whole : price get_return plan v k (got_before body (length body) i) ≡ queued_weight v k = ap (price get_return plan v k) (not_got_before body (length body) i not_got) in
    lost_by get_return plan v weight body i k valid laws gains is_submit (omega (arith, whole, weighs))

-- a submit whose get returns less than the queued job weighs makes its actor lighter at the end of the body
pub lost_by_child : (get_return : GetReturn) (plan : Plan) (v : Vector) (weight : ℕ → ℕ) (body : List Action) (i k : ℕ) → IsValidBody plan body → BodyLaws get_return plan v weight body → NoneGains get_return plan v body → slice_get body i ≡ Some (Submit k)
    → returned_weight get_return plan v k < queued_weight v k → weight (length body) < weight 0
lost_by_child get_return plan v weight body i k valid laws gains is_submit less =
    lost_by get_return plan v weight body i k valid laws gains is_submit (either (got_before body (length body) i))
  where
    either : (got : Bool) → 1 ≤ price get_return plan v k got
    either true =
        let got : price get_return plan v k true ≡ queued_weight v k - returned_weight get_return plan v k = refl in
        omega (arith, got, less)
    either false =
        let not_got : price get_return plan v k false ≡ queued_weight v k = refl in
        omega (arith, not_got, less)
