-- The quantities of the classes include all generations of jobs, whatever valid levels the ranks have.
use Rattle.std.proofs.Common.{◌≡◌, ◌≤◌, ◌<◌, ◌+◌, ◌*◌, ℕ, zero, suc, List, [], ◌∷◌, max, fold, slice_get, slice_index, Some, sum_by, refl, sym, ap, ◌∙◌, arith}
use Rattle.std.proofs.lemmas.List.Sums.{sum_by-cons}
use Rattle.job_bodies.specs.declared.action.Action.{Action}
use Rattle.job_bodies.specs.declared.action.Action.TheVariants.{Work, Submit, Get}
use Rattle.job_bodies.specs.Plan.{Plan, Class, class_at}
use Rattle.weights.specs.Ranks.{Ranks, level}
use Rattle.soundness.proofs.RankLaws.{RankLaws, rank_laws}
use Rattle.locked_runner.specs.declared.numbers.Measure.TheVariants.{Jobs, Units, Events}
use Rattle.locked_runner.specs.Complete.{rounds_of}
use Rattle.soundness.specs.Drain.{of_submit}
use Rattle.locked_runner.specs.RunNumbers.{submitted, quantity_within, greatest, total_quantity, submitted_by, by_jobs, own_quantity, units_of_clients, events_of_clients, TotalsAddUp, NumbersAreOfThePlan}

-- two sums over a list are equal if their terms are equal for each element
sums_agree : {X : Type 0} (f g : X → ℕ) (xs : List X) → ((i : ℕ) (x : X) → slice_get xs i ≡ Some x → f x ≡ g x) → sum_by f xs ≡ sum_by g xs
sums_agree f g [] same = refl
sums_agree f g (x ∷ xs) same =
    let first = same 0 x refl in
    let rest = sums_agree f g xs (λ i y e. same (suc i) y e) in
    omega (arith, sum_by-cons f x xs, sum_by-cons g x xs)

-- two sums over the submits of a body are equal if the two functions agree at each class that it submits
submitted_agree : (f g : ℕ → ℕ) (body : List Action) → ((i k : ℕ) → slice_get body i ≡ Some (Submit k) → f k ≡ g k) → submitted f body ≡ submitted g body
submitted_agree f g body same = sums_agree (of_submit f) (of_submit g) body (λ i x e. one i x e)
  where
    one : (i : ℕ) (x : Action) → slice_get body i ≡ Some x → of_submit f x ≡ of_submit g x
    one i (Work u) e = refl
    one i (Submit k) e = same i k e
    one i (Get t) e = refl

-- if two numbers of generations are both enough, each for its own ranks, they give the same quantity
generations_agree : (plan : Plan) (ranks ranks' : Ranks) (own_quantity : Class → ℕ) (n m k : ℕ) → RankLaws plan ranks → RankLaws plan ranks' → level ranks k < n → level ranks' k < m
    → quantity_within plan own_quantity n k ≡ quantity_within plan own_quantity m k
generations_agree plan ranks ranks' own_quantity zero m k laws laws' low low' = absurd (omega arith)
generations_agree plan ranks ranks' own_quantity (suc n) zero k laws laws' low low' = absurd (omega arith)
generations_agree plan ranks ranks' own_quantity (suc n) (suc m) k laws laws' low low' =
    let class = class_at plan k in
    ap (λ (x : ℕ). own_quantity class + x)
    (submitted_agree (quantity_within plan own_quantity n) (quantity_within plan own_quantity m) class.body
    (λ i k' e.
    let sinks = laws.sinks k i k' e in
    let sinks' = laws'.sinks k i k' e in
    generations_agree plan ranks ranks' own_quantity n m k' laws laws' (omega arith) (omega arith)))

-- no number of a list is above the greatest one
below_fold : (numbers : List ℕ) (start k : ℕ) → (start ≤ fold (λ a n. max a n) start numbers) × (slice_index numbers k ≤ fold (λ a n. max a n) start numbers)
below_fold [] start k = (omega arith, omega arith)
below_fold (n ∷ numbers) start zero = let rest = below_fold numbers (max start n) 0 in (omega (arith, rest.0), omega (arith, rest.0))
below_fold (n ∷ numbers) start (suc k) = let rest = below_fold numbers (max start n) k in (omega (arith, rest.0), rest.1)

within_greatest : (ranks : Ranks) (k : ℕ) → level ranks k < greatest ranks.levels + 1
within_greatest ranks k = let within = (below_fold ranks.levels 0 k).1 in omega arith

pub totals_add_up : TotalsAddUp
totals_add_up plan ranks own_quantity k hold =
    let laws = rank_laws plan ranks hold in
    let top = greatest ranks.levels in
    let within = within_greatest ranks k in
    let next : suc top ≡ top + 1 = omega arith in
    ap (λ (n : ℕ). quantity_within plan own_quantity n k) (sym next)
    ∙ ap (λ (x : ℕ). own_quantity (class_at plan k) + x)
    (submitted_agree (quantity_within plan own_quantity top) (total_quantity plan ranks own_quantity) (class_at plan k).body
    (λ i k' e.
    let sinks = laws.sinks k i k' e in
    generations_agree plan ranks ranks own_quantity top (top + 1) k' laws laws (omega arith) (within_greatest ranks k')))

-- the total quantity of a class is the same for both ranks
totals_agree : (plan : Plan) (ranks ranks' : Ranks) (own_quantity : Class → ℕ) (k : ℕ) → RankLaws plan ranks → RankLaws plan ranks' → total_quantity plan ranks own_quantity k ≡ total_quantity plan ranks' own_quantity k
totals_agree plan ranks ranks' own_quantity k laws laws' =
    generations_agree plan ranks ranks' own_quantity (greatest ranks.levels + 1) (greatest ranks'.levels + 1) k laws laws' (within_greatest ranks k) (within_greatest ranks' k)

-- the quantity of all jobs of a run is the same for both ranks
by_jobs_agree : (plan : Plan) (ranks ranks' : Ranks) (rounds : ℕ) (own_quantity : Class → ℕ) → RankLaws plan ranks → RankLaws plan ranks' → by_jobs plan ranks rounds own_quantity ≡ by_jobs plan ranks' rounds own_quantity
by_jobs_agree plan ranks ranks' rounds own_quantity laws laws' =
    sums_agree (submitted_by rounds (total_quantity plan ranks own_quantity)) (submitted_by rounds (total_quantity plan ranks' own_quantity)) plan.clients
    (λ i client e.
    ap (λ (x : ℕ). client.count * (rounds_of rounds client * x))
    (submitted_agree (total_quantity plan ranks own_quantity) (total_quantity plan ranks' own_quantity) client.body (λ j k at. totals_agree plan ranks ranks' own_quantity k laws laws')))

pub numbers_are_of_the_plan : NumbersAreOfThePlan
numbers_are_of_the_plan plan rounds ranks ranks' hold hold' =
    let laws = rank_laws plan ranks hold in
    let laws' = rank_laws plan ranks' hold' in
    record {
      jobs = by_jobs_agree plan ranks ranks' rounds (own_quantity Jobs) laws laws';
      units = ap (λ (x : ℕ). x + sum_by (units_of_clients rounds) plan.clients) (by_jobs_agree plan ranks ranks' rounds (own_quantity Units) laws laws');
      most_events = ap (λ (x : ℕ). x + sum_by (events_of_clients rounds) plan.clients) (by_jobs_agree plan ranks ranks' rounds (own_quantity Events) laws laws');
    }
