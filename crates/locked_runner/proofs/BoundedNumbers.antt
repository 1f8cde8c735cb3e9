-- If the bound on the number of a run's events is within its limit, the numbers of jobs and units are too small to be capped.
use Rattle.std.proofs.Common.{◌≡◌, ◌≤◌, ◌+◌, ◌-◌, ◌*◌, ℕ, zero, suc, List, [], ◌∷◌, length, slice_get, Some, sum_by, refl, subst, arith}
use Rattle.std.proofs.Math.Nat.{mul-add, mul_left_comm, mul-le-mul_left}
use Rattle.std.proofs.lemmas.List.Sums.{sum_by-cons}
use Rattle.std.proofs.lemmas.Option.{get_or_from_slice_get}
use Rattle.job_bodies.specs.declared.action.Action.{Action}
use Rattle.job_bodies.specs.declared.action.Action.TheVariants.{Work, Submit, Get}
use Rattle.job_bodies.specs.Plan.{Plan, Class, Client, class_at, no_client}
use Rattle.job_bodies.specs.WellFormed.{IsWellFormed}
use Rattle.job_bodies.specs.ValidBody.{IsValidBody}
use Rattle.job_bodies.proofs.Bodies.{ordered}
use Rattle.weights.specs.Ranks.{Ranks}
use Rattle.locked_runner.specs.Complete.{rounds_of, events_of_client}
use Rattle.soundness.specs.Drain.{of_submit}
use Rattle.locked_runner.specs.RunNumbers.{units_of, units_in, submitted, quantity_within, total_quantity, greatest, submitted_by, by_jobs, units_of_clients, events_of_clients, jobs, units, most_events, capped}

-- if x is at most c times y, then n times x is at most c times n times y
scaled : (c n x y : ℕ) → x ≤ c * y → n * x ≤ c * (n * y)
scaled c n x y most = subst (λ (z : ℕ). n * x ≤ z) (mul_left_comm n c y) (mul-le-mul_left n most)

added : (c x y x' y' : ℕ) → x ≤ c * y → x' ≤ c * y' → x + x' ≤ c * (y + y')
added c x y x' y' most most' =
    let split = mul-add c y y' in
    omega (arith, split)

sums_within : {X : Type 0} (c : ℕ) (f g : X → ℕ) (xs : List X) → ((i : ℕ) (x : X) → slice_get xs i ≡ Some x → f x ≤ c * g x) → sum_by f xs ≤ c * sum_by g xs
sums_within c f g [] each = omega arith
sums_within c f g (x ∷ xs) each =
    rw (sum_by-cons f x xs, sum_by-cons g x xs) (added c (f x) (g x) (sum_by f xs) (sum_by g xs) (each 0 x refl) (sums_within c f g xs (λ i y e. each (suc i) y e)))

submitted_within : (c : ℕ) (f g : ℕ → ℕ) (body : List Action) → ((k : ℕ) → f k ≤ c * g k) → submitted f body ≤ c * submitted g body
submitted_within c f g body each = sums_within c (of_submit f) (of_submit g) body at
  where
    at : (i : ℕ) (action : Action) → slice_get body i ≡ Some action → of_submit f action ≤ c * of_submit g action
    at i (Work u) e = omega arith
    at i (Submit k) e = each k
    at i (Get t) e = omega arith

-- a bound on the quantity of one job of each class also bounds the quantities that include the jobs that it causes
total_in : (plan : Plan) (c : ℕ) (a b : Class → ℕ) → ((k : ℕ) → a (class_at plan k) ≤ c * b (class_at plan k)) → (n k : ℕ) → quantity_within plan a n k ≤ c * quantity_within plan b n k
total_in plan c a b each zero k = omega arith
total_in plan c a b each (suc n) k =
    added c (a (class_at plan k)) (b (class_at plan k)) (submitted (quantity_within plan a n) (class_at plan k).body) (submitted (quantity_within plan b n) (class_at plan k).body)
    (each k)
    (submitted_within c (quantity_within plan a n) (quantity_within plan b n) (class_at plan k).body (total_in plan c a b each n))

by_jobs_in : (plan : Plan) (ranks : Ranks) (rounds c : ℕ) (a b : Class → ℕ) → ((k : ℕ) → a (class_at plan k) ≤ c * b (class_at plan k)) → by_jobs plan ranks rounds a ≤ c * by_jobs plan ranks rounds b
by_jobs_in plan ranks rounds c a b each = sums_within c (submitted_by rounds (total_quantity plan ranks a)) (submitted_by rounds (total_quantity plan ranks b)) plan.clients of_kind
  where
    of_kind : (i : ℕ) (client : Client) → slice_get plan.clients i ≡ Some client → submitted_by rounds (total_quantity plan ranks a) client ≤ c * submitted_by rounds (total_quantity plan ranks b) client
    of_kind i client e =
        let once = submitted_within c (total_quantity plan ranks a) (total_quantity plan ranks b) client.body (total_in plan c a b each (greatest ranks.levels + 1)) in
        scaled c client.count _ _ (scaled c (rounds_of rounds client) _ _ once)

-- a body has at most 1,000,000 units of work for each of its actions
work_in : (plan : Plan) (body : List Action) → IsValidBody plan body → units_in body ≤ 1000000 * length body
work_in plan body valid = subst (λ (n : ℕ). units_in body ≤ 1000000 * n) (ones body) (sums_within 1000000 units_of (λ _. 1) body at)
  where
    at : (i : ℕ) (action : Action) → slice_get body i ≡ Some action → units_of action ≤ 1000000 * 1
    at i (Work u) e = let most = (valid.work i u e).1 in omega arith
    at i (Submit k) e = omega arith
    at i (Get t) e = omega arith

    ones : (actions : List Action) → sum_by (λ _. 1) actions ≡ length actions
    ones [] = refl
    ones (action ∷ actions) = let rest = ones actions in omega (arith, sum_by-cons (λ (_ : Action). 1) action actions)

rounds_are_events : (r n : ℕ) → r * n ≤ r * n + r - 1
rounds_are_events zero n = omega arith
rounds_are_events (suc r) n = omega arith

clients_in : (plan : Plan) (rounds : ℕ) → IsWellFormed plan → sum_by (units_of_clients rounds) plan.clients ≤ 1000000 * sum_by (events_of_clients rounds) plan.clients
clients_in plan rounds formed = sums_within 1000000 (units_of_clients rounds) (events_of_clients rounds) plan.clients of_kind
  where
    of_kind : (i : ℕ) (client : Client) → slice_get plan.clients i ≡ Some client → units_of_clients rounds client ≤ 1000000 * events_of_clients rounds client
    of_kind i client e =
        let valid : IsValidBody plan client.body = subst (λ (x : Client). IsValidBody plan x.body) (get_or_from_slice_get plan.clients i client no_client e) ((ordered plan formed).clients i) in
        let r = rounds_of rounds client in
        let in_rounds : r * units_in client.body ≤ 1000000 * (r * length client.body) = scaled 1000000 r _ _ (work_in plan client.body valid) in
        let in_events : r * units_in client.body ≤ 1000000 * events_of_client rounds client = let more = rounds_are_events r (length client.body) in omega arith in
        scaled 1000000 client.count _ _ in_events

-- the three quantities of one job: 1 for the job, its units of work, and its events, which are its actions, its take and its end
abbrev one_job : Class → ℕ
one_job class = 1

abbrev own_units : Class → ℕ
own_units class = units_in class.body

abbrev own_events : Class → ℕ
own_events class = length class.body + 2

jobs_in : (plan : Plan) (ranks : Ranks) (rounds : ℕ) → jobs plan ranks rounds ≤ most_events plan ranks rounds
jobs_in plan ranks rounds =
    let most : jobs plan ranks rounds ≤ 1 * by_jobs plan ranks rounds own_events = by_jobs_in plan ranks rounds 1 one_job own_events (λ k. omega arith) in
    omega arith

units_in_bound : (plan : Plan) (ranks : Ranks) (rounds : ℕ) → IsWellFormed plan → units plan ranks rounds ≤ 1000000 * most_events plan ranks rounds
units_in_bound plan ranks rounds formed =
    added 1000000 _ _ _ _
    (by_jobs_in plan ranks rounds 1000000 own_units own_events (λ k. let most = work_in plan (class_at plan k).body ((ordered plan formed).classes k) in omega arith))
    (clients_in plan rounds formed)

pub few_jobs : (plan : Plan) (ranks : Ranks) (rounds : ℕ) → most_events plan ranks rounds ≤ 1000000 → capped (jobs plan ranks rounds) ≡ jobs plan ranks rounds
few_jobs plan ranks rounds few = let most = jobs_in plan ranks rounds in omega arith

pub few_units : (plan : Plan) (ranks : Ranks) (rounds : ℕ) → IsWellFormed plan → most_events plan ranks rounds ≤ 1000000 → capped (units plan ranks rounds) ≡ units plan ranks rounds
few_units plan ranks rounds formed few = let most = units_in_bound plan ranks rounds formed in omega arith
