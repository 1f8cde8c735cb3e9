-- The weight of a state. No event increases it, so in every reachable state it is at most the total.
use Rattle.std.proofs.Common.{◌≡◌, ◌≢◌, ℕ, ◌+◌, ◌-◌, ◌*◌, ◌<◌, ◌≤◌, ⊎_elim, Bool, true, false, cond, ◌&&◌, eqb, List, [], ◌∷◌, length, get_or, sum_by, refl, sym, ap, subst, ◌∙◌, arith, le_of_eq}
use Rattle.std.specs.List.{enumerate_from}
use Rattle.std.proofs.Math.Nat.{mul-add}
use Rattle.std.proofs.lemmas.Bool.{cases_eq, eq-eqb, ne_eqb}
use Rattle.std.proofs.lemmas.List.{get_or_default}
use Rattle.std.proofs.lemmas.List.Sums.{sum_by-cons}
use Rattle.support.specs.In.{In, here, there}
use Rattle.support.proofs.Members.{All-at_In}
use Rattle.support.proofs.Sums.{sum_by-agree, sum_by-add, sum_by-le-within}
use Rattle.job_bodies.specs.Plan.{Pool, Plan, no_pool, pool_at}
use Rattle.job_bodies.proofs.Bodies.{HasValidBodies}
use Rattle.pool_machine.specs.declared.event.Event.{Event}
use Rattle.pool_machine.specs.declared.event.Outcome.{Outcome}
use Rattle.pool_machine.specs.State.{State, CreatedJob, pool_of, is_at, is_busy_in, busy}
use Rattle.pool_machine.proofs.Events.{Happens}
use Rattle.pool_machine.proofs.StateInvariant.{StateInvariant, busy_jobs}
use Rattle.pool_machine.proofs.Busy.{one_if}
use Rattle.pool_machine.proofs.InvariantStep.{kept_step}
use Rattle.weights.specs.declared.get_return.GetReturn.{GetReturn}
use Rattle.weights.specs.Vector.{Vector, workers_weight, total}
use Rattle.soundness.specs.WeightedSum.{sum_of}
use Rattle.soundness.specs.WeightLaws.{RejectedAreLight}
use Rattle.soundness.proofs.VectorLaws.{VectorLaws}
use Rattle.soundness.proofs.NeverRises as rises
use Rattle.soundness.proofs.NeverRises.{workers_weight_of_jobs, actors_weight, busy_workers_weight, worker_weight, IsBalanced}

-- ---- sums with at most one nonzero term

-- a sum of zeros is 0
sum_by_zero : {X : Type 0} (f : X → ℕ) (xs : List X) → ((x : X) → f x ≡ 0) → sum_by f xs ≡ 0
sum_by_zero f [] zeros = refl
sum_by_zero f (x ∷ xs) zeros = omega (arith, sum_by-cons f x xs, zeros x, sum_by_zero f xs zeros)

-- a sum over indices after q is 0 if all terms except that of q are 0
sum_behind : {X : Type 0} (f : ℕ × X → ℕ) (n : ℕ) (xs : List X) (q : ℕ) → q < n → ((e : ℕ × X) → e.0 ≢ q → f e ≡ 0) → sum_by f (enumerate_from n xs) ≡ 0
sum_behind f n [] q behind others = refl
sum_behind f n (x ∷ xs) q behind others =
    omega (arith, sum_by-cons f (n, x) (enumerate_from (n + 1) xs), others (n, x) (λ (same : n ≡ q). omega arith), sum_behind f (n + 1) xs q (omega arith) others)

-- a sum with one nonzero term is that term
sum_at_one : {X : Type 0} (f : ℕ × X → ℕ) (n : ℕ) (xs : List X) (q w : ℕ) → n ≤ q → q < n + length xs → ((x : X) → f (q, x) ≡ w) → ((e : ℕ × X) → e.0 ≢ q → f e ≡ 0) → sum_by f (enumerate_from n xs) ≡ w
sum_at_one f n [] q w low high at others = absurd (omega arith)
sum_at_one f n (x ∷ xs) q w low high at others =
    let parts = sum_by-cons f (n, x) (enumerate_from (n + 1) xs) in
    ⊎_elim
    (λ (same : n ≡ q).
    let first : f (n, x) ≡ w = subst (λ (k : ℕ). f (k, x) ≡ w) (sym same) (at x) in
    let rest : sum_by f (enumerate_from (n + 1) xs) ≡ 0 = sum_behind f (n + 1) xs q (omega arith) others in
    omega (arith, parts, first, rest))
    (λ (other : n ≢ q). omega (arith, parts, others (n, x) other, sum_at_one f (n + 1) xs q w (omega arith) (omega arith) at others))
    (cases_eq n q)

-- ---- the busy workers, summed by pool and by job

-- the weight of the busy workers, summed over the pools
abbrev workers_weight_of_pools : Plan → Vector → List CreatedJob → ℕ
workers_weight_of_pools plan v jobs = sum_by (λ (entry : ℕ × Pool). workers_weight v entry.0 * busy_jobs plan jobs entry.0) (enumerate_from 0 plan.pools)

-- a busy worker of pool q contributes its weight to the sum over the pools exactly once, and a job that is not running
-- contributes nothing
worker_of_one : (v : Vector) (pools : List Pool) (q : ℕ) (working : Bool) → q < length pools
    → sum_by (λ (entry : ℕ × Pool). workers_weight v entry.0 * one_if (working && eqb q entry.0)) (enumerate_from 0 pools) ≡ cond working (workers_weight v q) 0
worker_of_one v pools q true inside =
    sum_at_one (λ (entry : ℕ × Pool). workers_weight v entry.0 * one_if (eqb q entry.0)) 0 pools q (workers_weight v q) (omega arith) (omega arith)
    (λ pool. let one : one_if (eqb q q) ≡ 1 = ap one_if (eq-eqb q q refl) in ap (λ (n : ℕ). workers_weight v q * n) one ∙ omega arith)
    (λ entry other. let none : one_if (eqb q entry.0) ≡ 0 = ap one_if (ne_eqb q entry.0 (λ same. other (sym same))) in ap (λ (n : ℕ). workers_weight v entry.0 * n) none ∙ omega arith)
worker_of_one v pools q false inside = sum_by_zero (λ (entry : ℕ × Pool). workers_weight v entry.0 * 0) (enumerate_from 0 pools) (λ entry. omega arith)

-- the weight of the busy workers summed over the pools equals that summed over the jobs
workers_weight_by_pool : (plan : Plan) (v : Vector) (jobs : List CreatedJob) → ((job : CreatedJob) → In job jobs → pool_of plan job.class < length plan.pools) → workers_weight_of_pools plan v jobs ≡ workers_weight_of_jobs plan v jobs
workers_weight_by_pool plan v [] inside = sum_by_zero (λ (entry : ℕ × Pool). workers_weight v entry.0 * 0) (enumerate_from 0 plan.pools) (λ entry. omega arith)
workers_weight_by_pool plan v (job ∷ jobs) inside =
    let numbered = enumerate_from 0 plan.pools in
    let of_job = λ (entry : ℕ × Pool). workers_weight v entry.0 * one_if (is_busy_in plan entry.0 job) in
    let of_jobs = λ (entry : ℕ × Pool). workers_weight v entry.0 * busy_jobs plan jobs entry.0 in
    let split : workers_weight_of_pools plan v (job ∷ jobs) ≡ sum_by (λ (entry : ℕ × Pool). of_job entry + of_jobs entry) numbered =
    sum_by-agree (λ (entry : ℕ × Pool). workers_weight v entry.0 * busy_jobs plan (job ∷ jobs) entry.0) (λ (entry : ℕ × Pool). of_job entry + of_jobs entry) numbered
    (λ entry. ap (λ (n : ℕ). workers_weight v entry.0 * n) (sum_by-cons (λ (x : CreatedJob). one_if (is_busy_in plan entry.0 x)) job jobs) ∙ mul-add (workers_weight v entry.0) (one_if (is_busy_in plan entry.0 job)) (busy_jobs plan jobs entry.0)) in
    let first = worker_of_one v plan.pools (pool_of plan job.class) (is_at job.stage) (inside job here) in
    let rest = workers_weight_by_pool plan v jobs (λ x i. inside x (there i)) in
    omega (arith, split, sum_by-add of_job of_jobs numbered, first, rest, sum_by-cons (λ (x : CreatedJob). worker_weight plan v x.class x.stage) job jobs)

-- ---- the workers that are not busy

-- the weight of all workers of all pools, up to each pool's maximum
abbrev pub all_workers : Plan → Vector → ℕ
all_workers plan v = sum_by (λ (entry : ℕ × Pool). workers_weight v entry.0 * entry.1.max) (enumerate_from 0 plan.pools)

-- the weight of the workers that are not busy
abbrev free_workers : Plan → Vector → State → ℕ
free_workers plan v s = sum_by (λ (entry : ℕ × Pool). workers_weight v entry.0 * (entry.1.max - busy plan s entry.0)) (enumerate_from 0 plan.pools)

-- two sums over a numbered list are equal if their terms agree at each index
sum_by-agree_within : {X : Type 0} (f g : ℕ × X → ℕ) (xs : List X) → ((p : ℕ) (d : X) → p < length xs → f (p, get_or xs p d) ≡ g (p, get_or xs p d)) → sum_by f (enumerate_from 0 xs) ≡ sum_by g (enumerate_from 0 xs)
sum_by-agree_within f g xs same =
    let low = sum_by-le-within f g 0 xs (λ p d inside. subst (λ (q : ℕ). f (q, get_or xs p d) ≤ g (q, get_or xs p d)) (sym (zero_plus p)) (le_of_eq (same p d inside))) in
    let high = sum_by-le-within g f 0 xs (λ p d inside. subst (λ (q : ℕ). g (q, get_or xs p d) ≤ f (q, get_or xs p d)) (sym (zero_plus p)) (le_of_eq (sym (same p d inside)))) in
    omega arith
  where
    zero_plus : (p : ℕ) → 0 + p ≡ p
    zero_plus p = omega arith

-- in a pool whose workers have weight w, the weight of the busy workers plus that of the others is the weight of all workers
parts_of : (w max busy : ℕ) → busy ≤ max → w * (max - busy) + w * busy ≡ w * max
parts_of w max busy within =
    let both : max - busy + busy ≡ max = omega arith in
    sym (mul-add w (max - busy) busy) ∙ ap (λ (n : ℕ). w * n) both

-- in all pools together, the weight of the busy workers plus that of the others is the weight of all workers
idle_and_busy_weight : (plan : Plan) (v : Vector) (s : State) → HasValidBodies plan → StateInvariant plan s → free_workers plan v s + busy_workers_weight plan v s ≡ all_workers plan v
idle_and_busy_weight plan v s ordered kept =
    let numbered = enumerate_from 0 plan.pools in
    let free = λ (entry : ℕ × Pool). workers_weight v entry.0 * (entry.1.max - busy plan s entry.0) in
    let at_work = λ (entry : ℕ × Pool). workers_weight v entry.0 * busy plan s entry.0 in
    let joined : sum_by (λ (entry : ℕ × Pool). free entry + at_work entry) numbered ≡ all_workers plan v =
    sum_by-agree_within (λ (entry : ℕ × Pool). free entry + at_work entry) (λ (entry : ℕ × Pool). workers_weight v entry.0 * entry.1.max) plan.pools
    (λ p d inside.
    let sizes = (kept.pools p inside).within_max in
    let same : (get_or plan.pools p d).max ≡ (pool_at plan p).max = ap (λ (pool : Pool). pool.max) (get_or_default plan.pools p d no_pool inside) in
    parts_of (workers_weight v p) (get_or plan.pools p d).max (busy plan s p) (omega arith)) in
    let by_pool = workers_weight_by_pool plan v s.jobs (λ job i. ordered.pools job.class (All-at_In (λ (x : CreatedJob). x.class < length plan.classes) kept.classes i)) in
    omega (arith, joined, by_pool, sum_by-add free at_work numbered)

-- the weight of a state plus that of its busy workers is the weight of its clients and jobs plus that of all workers
pub sum_of_is : (get_return : GetReturn) (plan : Plan) (v : Vector) (s : State) → HasValidBodies plan → StateInvariant plan s → sum_of get_return plan v s + busy_workers_weight plan v s ≡ actors_weight get_return plan v s + all_workers plan v
sum_of_is get_return plan v s ordered kept = omega (arith, idle_and_busy_weight plan v s ordered kept)

-- the weight of the busy workers is at most that of all workers
pub busy_workers_weight-le : (plan : Plan) (v : Vector) (s : State) → HasValidBodies plan → StateInvariant plan s → busy_workers_weight plan v s ≤ all_workers plan v
busy_workers_weight-le plan v s ordered kept = omega (arith, idle_and_busy_weight plan v s ordered kept)

-- ---- the invariant

-- the weight of the clients and jobs of a balanced state is at most the total, which is the initial weight of the clients plus
-- the weight of all workers
pub actors_weight-le-total : (get_return : GetReturn) (plan : Plan) (v : Vector) (s : State) → HasValidBodies plan → StateInvariant plan s → IsBalanced get_return plan v s → actors_weight get_return plan v s ≤ total plan v
actors_weight-le-total get_return plan v s ordered kept balanced = omega (arith, busy_workers_weight-le plan v s ordered kept)

-- the weight of a balanced state is at most the total
pub sum_of-le-total : (get_return : GetReturn) (plan : Plan) (v : Vector) (s : State) → HasValidBodies plan → StateInvariant plan s → IsBalanced get_return plan v s → sum_of get_return plan v s ≤ total plan v
sum_of-le-total get_return plan v s ordered kept balanced = omega (arith, sum_of_is get_return plan v s ordered kept)

-- no event increases the weight of a state
pub sum_never_rises : (get_return : GetReturn) (plan : Plan) (v : Vector) (s s' : State) (o : Outcome) {e : Event} → HasValidBodies plan → VectorLaws get_return plan v → RejectedAreLight plan v → StateInvariant plan s → Happens plan s e s' o → sum_of get_return plan v s' ≤ sum_of get_return plan v s
sum_never_rises get_return plan v s s' o ordered laws light kept happened =
    let before = sum_of_is get_return plan v s ordered kept in
    let after = sum_of_is get_return plan v s' ordered (kept_step plan s s' o ordered kept happened) in
    let no_heavier = rises.never_rises get_return plan v s s' o ordered laws light kept happened in
    omega (arith, before, after, no_heavier)
