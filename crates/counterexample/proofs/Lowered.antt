-- A plan with lower maximums has the same steps, as long as no pool starts a thread above its lowered maximum.
use Rattle.std.proofs.Common.{◌≡◌, ℕ, zero, suc, ◌+◌, ◌<◌, ◌≤◌, ◌⊎◌, Bool, true, false, cond, List, [], ◌∷◌, length, map, get_or, Option, Some, None, inl, inr, ⊎_elim, refl, sym, ap, subst, ◌∙◌, arith}
use Rattle.std.specs.List.{enumerate_from}
use Rattle.std.proofs.lemmas.Option.{same_Some}
use Rattle.std.proofs.lemmas.Grind.{common_steps}
use Rattle.job_bodies.specs.declared.action.Action.{Action}
use Rattle.job_bodies.specs.declared.action.Action.TheVariants as action
use Rattle.job_bodies.specs.Plan.{Pool, Plan, no_pool, pool_at, class_at, client_at}
use Rattle.job_bodies.specs.WellFormed.{least_queue, largest_max}
use Rattle.job_bodies.specs.ValidBody.{IsValidBody}
use Rattle.job_bodies.proofs.Bodies.{HasValidBodies}
use Rattle.pool_machine.specs.declared.offer.Offer.{Offer}
use Rattle.pool_machine.specs.declared.offer.Offer.TheVariants as offer
use Rattle.pool_machine.specs.PoolState.{PoolView, room_limit, new_pool, answer}
use Rattle.pool_machine.specs.declared.parent.Parent.{Parent}
use Rattle.pool_machine.specs.declared.parent.Parent.TheVariants as parent
use Rattle.pool_machine.specs.declared.event.Event.{Event}
use Rattle.pool_machine.specs.declared.event.Outcome.{Outcome}
use Rattle.pool_machine.specs.declared.event.Outcome.TheVariants as outcome
use Rattle.pool_machine.specs.State.{State, PoolPart, pool_part, pool_of, pool_seen, part_of, threads}
use Rattle.pool_machine.specs.Step.{skipped, answered, submitted, step_action, step_at_point, step}
use Rattle.pool_machine.specs.Reach.{start}
use Rattle.pool_machine.proofs.Events.{IsAtAction, event_of, Happens, works, starts, queues, is_refused, is_rejected, gets, finishes, loops, takes, retires}
use Rattle.pool_machine.proofs.StateInvariant.{StateInvariant}
use Rattle.pool_machine.proofs.InvariantSubmits.{class_exists}

-- ---- the plan

abbrev pub with_most : (ℕ → ℕ) → ℕ × Pool → Pool
with_most most entry = record entry.1 { max = most entry.0 }

-- the plan with these maximums
abbrev pub lowered : Plan → (ℕ → ℕ) → Plan
lowered plan most = record plan { pools = map (with_most most) (enumerate_from 0 plan.pools) }

-- the lowered maximum of each pool is between the pool's core and its maximum in the plan
abbrev pub IsBetween : Plan → (ℕ → ℕ) → Type 0
IsBetween plan most = (p : ℕ) → p < length plan.pools → ((pool_at plan p).core ≤ most p) × (most p ≤ (pool_at plan p).max)

length_from : (most : ℕ → ℕ) (n : ℕ) (pools : List Pool) → length (map (with_most most) (enumerate_from n pools)) ≡ length pools
length_from most n [] = refl
length_from most n (x ∷ xs) = ap (λ (k : ℕ). suc k) (length_from most (n + 1) xs)

core_from : (most : ℕ → ℕ) (n : ℕ) (pools : List Pool) (p : ℕ) → (get_or (map (with_most most) (enumerate_from n pools)) p no_pool).core ≡ (get_or pools p no_pool).core
core_from most n [] p = refl
core_from most n (x ∷ xs) zero = refl
core_from most n (x ∷ xs) (suc p) = core_from most (n + 1) xs p

queue_from : (most : ℕ → ℕ) (n : ℕ) (pools : List Pool) (p : ℕ) → (get_or (map (with_most most) (enumerate_from n pools)) p no_pool).queue ≡ (get_or pools p no_pool).queue
queue_from most n [] p = refl
queue_from most n (x ∷ xs) zero = refl
queue_from most n (x ∷ xs) (suc p) = queue_from most (n + 1) xs p

may_reject_from : (most : ℕ → ℕ) (n : ℕ) (pools : List Pool) (p : ℕ) → (get_or (map (with_most most) (enumerate_from n pools)) p no_pool).may_reject ≡ (get_or pools p no_pool).may_reject
may_reject_from most n [] p = refl
may_reject_from most n (x ∷ xs) zero = refl
may_reject_from most n (x ∷ xs) (suc p) = may_reject_from most (n + 1) xs p

unbounded_from : (most : ℕ → ℕ) (n : ℕ) (pools : List Pool) (p : ℕ) → (get_or (map (with_most most) (enumerate_from n pools)) p no_pool).unbounded ≡ (get_or pools p no_pool).unbounded
unbounded_from most n [] p = refl
unbounded_from most n (x ∷ xs) zero = refl
unbounded_from most n (x ∷ xs) (suc p) = unbounded_from most (n + 1) xs p

core_timeout_from : (most : ℕ → ℕ) (n : ℕ) (pools : List Pool) (p : ℕ) → (get_or (map (with_most most) (enumerate_from n pools)) p no_pool).core_timeout ≡ (get_or pools p no_pool).core_timeout
core_timeout_from most n [] p = refl
core_timeout_from most n (x ∷ xs) zero = refl
core_timeout_from most n (x ∷ xs) (suc p) = core_timeout_from most (n + 1) xs p

max_from : (most : ℕ → ℕ) (n : ℕ) (pools : List Pool) (p : ℕ) → p < length pools → (get_or (map (with_most most) (enumerate_from n pools)) p no_pool).max ≡ most (n + p)
max_from most n [] p inside = absurd (omega arith)
max_from most n (x ∷ xs) zero inside = ap most (let same : n ≡ n + 0 = omega arith in same)
max_from most n (x ∷ xs) (suc p) inside = max_from most (n + 1) xs p (omega arith) ∙ ap most (let same : n + 1 + p ≡ n + suc p = omega arith in same)

parts_from : (most : ℕ → ℕ) (n : ℕ) (pools : List Pool) → map (λ pool. part_of (new_pool pool)) (map (with_most most) (enumerate_from n pools)) ≡ map (λ pool. part_of (new_pool pool)) pools
parts_from most n [] = refl
parts_from most n (x ∷ xs) = ap (λ (parts : List PoolPart). part_of (new_pool x) ∷ parts) (parts_from most (n + 1) xs)

pub length-lowered : (plan : Plan) (most : ℕ → ℕ) → length (lowered plan most).pools ≡ length plan.pools
length-lowered plan most = length_from most 0 plan.pools

pub core-lowered : (plan : Plan) (most : ℕ → ℕ) (p : ℕ) → (pool_at (lowered plan most) p).core ≡ (pool_at plan p).core
core-lowered plan most p = core_from most 0 plan.pools p

pub queue-lowered : (plan : Plan) (most : ℕ → ℕ) (p : ℕ) → (pool_at (lowered plan most) p).queue ≡ (pool_at plan p).queue
queue-lowered plan most p = queue_from most 0 plan.pools p

may_reject-lowered : (plan : Plan) (most : ℕ → ℕ) (p : ℕ) → (pool_at (lowered plan most) p).may_reject ≡ (pool_at plan p).may_reject
may_reject-lowered plan most p = may_reject_from most 0 plan.pools p

unbounded-lowered : (plan : Plan) (most : ℕ → ℕ) (p : ℕ) → (pool_at (lowered plan most) p).unbounded ≡ (pool_at plan p).unbounded
unbounded-lowered plan most p = unbounded_from most 0 plan.pools p

-- the bound of each maximum is the same in the lowered plan
largest-lowered : (plan : Plan) (most : ℕ → ℕ) (p : ℕ)
    → largest_max (pool_at (lowered plan most) p).core_timeout (pool_at (lowered plan most) p).unbounded ≡ largest_max (pool_at plan p).core_timeout (pool_at plan p).unbounded
largest-lowered plan most p =
    ap (λ (timeout : Bool). largest_max timeout (pool_at (lowered plan most) p).unbounded) (core_timeout_from most 0 plan.pools p)
    ∙ ap (λ (unbounded : Bool). largest_max (pool_at plan p).core_timeout unbounded) (unbounded-lowered plan most p)

-- the queue of each pool has room in the lowered plan exactly as in the plan
room-lowered : (plan : Plan) (most : ℕ → ℕ) (p idle queued : ℕ)
    → room_limit (pool_at (lowered plan most) p).unbounded (pool_at (lowered plan most) p).queue idle queued ≡ room_limit (pool_at plan p).unbounded (pool_at plan p).queue idle queued
room-lowered plan most p idle queued =
    ap (λ (unbounded : Bool). room_limit unbounded (pool_at (lowered plan most) p).queue idle queued) (unbounded-lowered plan most p)
    ∙ ap (λ (queue : ℕ). room_limit (pool_at plan p).unbounded queue idle queued) (queue-lowered plan most p)

pub max-lowered : (plan : Plan) (most : ℕ → ℕ) (p : ℕ) → p < length plan.pools → (pool_at (lowered plan most) p).max ≡ most p
max-lowered plan most p inside = max_from most 0 plan.pools p inside ∙ ap most (let same : 0 + p ≡ p = omega arith in same)

-- the lowered plan has the same initial state
pub start-lowered : (plan : Plan) (most : ℕ → ℕ) → start (lowered plan most) ≡ start plan
start-lowered plan most = ap (λ (parts : List PoolPart). record (start plan) { pools = parts }) (parts_from most 0 plan.pools)

valid-lowered : (plan : Plan) (most : ℕ → ℕ) (body : List Action) → IsValidBody plan body → IsValidBody (lowered plan most) body
valid-lowered plan most body valid = record { short = valid.short; work = valid.work; submit = valid.submit; behind = valid.behind; of_submit = valid.of_submit; once = valid.once }

pub ordered-lowered : (plan : Plan) (most : ℕ → ℕ) → HasValidBodies plan → IsBetween plan most → HasValidBodies (lowered plan most)
ordered-lowered plan most ordered between = record {
  classes = λ k. valid-lowered plan most (class_at plan k).body (ordered.classes k);
  clients = λ c. valid-lowered plan most (client_at plan c).body (ordered.clients c);
  pools = λ k inside. let some = ordered.pools k inside in omega (arith, length-lowered plan most);
  core = λ p inside. let some = ordered.core p (there p inside) in omega (arith, core-lowered plan most p);
  max = λ p inside. let high = (between p (there p inside)).0 in omega (arith, core-lowered plan most p, max-lowered plan most p (there p inside));
  most_max = λ p inside.
      let low = (between p (there p inside)).1 in
      let few = ordered.most_max p (there p inside) in
      omega (arith, max-lowered plan most p (there p inside), largest-lowered plan most p);
  queue = λ p inside.
      let some = ordered.queue p (there p inside) in
      let least : least_queue (pool_at (lowered plan most) p) ≡ least_queue (pool_at plan p) = ap (λ (may : Bool). cond may 0 1) (may_reject-lowered plan most p) in
      omega (arith, queue-lowered plan most p);
  most_queue = λ p inside. let few = ordered.most_queue p (there p inside) in omega (arith, queue-lowered plan most p);
  count = ordered.count;
  most_count = ordered.most_count;
}
  where
    there : (p : ℕ) → p < length (lowered plan most).pools → p < length plan.pools
    there p inside = omega (arith, length-lowered plan most)

-- if no pool has more threads than its lowered maximum, the invariant holds for the lowered plan as well
pub kept-lowered : (plan : Plan) (most : ℕ → ℕ) (s : State) → StateInvariant plan s → ((p : ℕ) → p < length plan.pools → threads plan s p ≤ most p) → StateInvariant (lowered plan most) s
kept-lowered plan most s kept within = record {
  classes = kept.classes;
  parents = kept.parents;
  as_many = kept.as_many ∙ sym (length-lowered plan most);
  pools = λ p is_inside.
      let inside : p < length plan.pools = omega (arith, length-lowered plan most) in
      let pool = kept.pools p inside in
      record {
        queue = pool.queue;
        within_max = omega (arith, within p inside, max-lowered plan most p inside);
        within_queue = subst (λ (limit : ℕ). length (pool_part s p).queue ≤ limit) (sym (room-lowered plan most p (pool_part s p).idle (length (pool_part s p).queue))) pool.within_queue;
      };
  actors = λ a body i stands. kept.actors a body i stands;
}

-- ---- the steps of the lowered plan

-- a pool that starts a thread has fewer than core threads, or its queue is bounded and full
pub started_when : (pool : PoolView) → answer pool ≡ offer.Started → (pool.threads < pool.core) ⊎ ((pool.unbounded ≡ false) × (pool.capacity ≤ length pool.queue))
started_when pool e = grind (arith, common_steps)

-- the outcome of a submit to a full pool is not `Started`, whether or not the pool may reject jobs
full_starts_none : (s' : State) (n : ℕ) (may : Bool) (after refused : State) (j p : ℕ) → ◌≡◌ {A = State × Outcome} (cond may (after, outcome.Rejected p j) (refused, outcome.Refused p)) (s', outcome.Started n) → ⊥
full_starts_none s' n true after refused j p e = let same : outcome.Rejected p j ≡ outcome.Started n = ap (λ (x : State × Outcome). x.1) e in absurd cc
full_starts_none s' n false after refused j p e = let same : outcome.Refused p ≡ outcome.Started n = ap (λ (x : State × Outcome). x.1) e in absurd cc

-- if the outcome of a submit is `Started`, so is the pool's response
started_given : (plan : Plan) (s s' : State) (a : Parent) (i k n : ℕ) (given : Offer) → answered plan s a i k given ≡ (s', outcome.Started n) → given ≡ offer.Started
started_given plan s s' a i k n offer.Started e = refl
started_given plan s s' a i k n offer.Queued e = let same : outcome.Queued (length s.jobs) ≡ outcome.Started n = ap (λ (x : State × Outcome). x.1) e in absurd cc
started_given plan s s' a i k n offer.Refused e =
    let p = pool_of plan k in
    absurd (full_starts_none s' n (pool_at plan p).may_reject (skipped s a i k) (record s { refusals = s.refusals + 1 }) (length s.jobs) p e)

step_of : (plan : Plan) (s : State) (a : Parent) (body : List Action) (i k : ℕ) → IsAtAction plan s a body i (Some (action.Submit k)) → step plan s (event_of a) ≡ Some (submitted plan s a i k)
step_of plan s (parent.Client c) body i k at = ap (step_at_point plan s (parent.Client c)) at.stands ∙ ap (step_action plan s (parent.Client c) i) at.is_there
step_of plan s (parent.Job j) body i k at = ap (step_at_point plan s (parent.Job j)) at.stands ∙ ap (step_action plan s (parent.Job j) i) at.is_there

started_answer : (plan : Plan) (s s' : State) (a : Parent) (body : List Action) (i k n : ℕ) → IsAtAction plan s a body i (Some (action.Submit k)) → step plan s (event_of a) ≡ Some (s', outcome.Started n) → answer (pool_seen plan s (pool_of plan k)) ≡ offer.Started
started_answer plan s s' a body i k n at is_step =
    started_given plan s s' a i k n (answer (pool_seen plan s (pool_of plan k))) (same_Some (submitted plan s a i k) (s', outcome.Started n) (sym (step_of plan s a body i k at) ∙ is_step))

-- pool q has fewer threads than its lowered maximum and a bounded queue, or fewer than core threads
abbrev pub IsBelow : Plan → (ℕ → ℕ) → State → ℕ → Type 0
IsBelow plan most s q = ((threads plan s q < most q) × ((pool_at plan q).unbounded ≡ false)) ⊎ (threads plan s q < (pool_at plan q).core)

-- if a submit makes a pool start a thread, `IsBelow` holds for the pool
abbrev pub StartsBelow : Plan → (ℕ → ℕ) → State → Type 0
StartsBelow plan most s = (a : Parent) (body : List Action) (i k : ℕ) → IsAtAction plan s a body i (Some (action.Submit k)) → answer (pool_seen plan s (pool_of plan k)) ≡ offer.Started → IsBelow plan most s (pool_of plan k)

stands-lowered : (plan : Plan) (most : ℕ → ℕ) (s : State) (a : Parent) (body : List Action) (i : ℕ) (there : Option Action) → IsAtAction plan s a body i there → IsAtAction (lowered plan most) s a body i there
stands-lowered plan most s a body i there at = record { stands = at.stands; is_there = at.is_there }

pub happens-lowered : (plan : Plan) (most : ℕ → ℕ) (s s' : State) (e : Event) (o : Outcome) → HasValidBodies plan → IsBetween plan most → StartsBelow plan most s → Happens plan s e s' o → step plan s e ≡ Some (s', o) → Happens (lowered plan most) s e s' o
happens-lowered plan most s s' e o ordered between below (works a body i u at) is_step = works a body i u (stands-lowered plan most s a body i (Some (action.Work u)) at)
happens-lowered plan most s s' e o ordered between below (starts a body i k at room) is_step =
    let q = pool_of plan k in
    let inside = ordered.pools k (class_exists plan s a body i k ordered at) in
    let max = max-lowered plan most q inside in
    let core = core-lowered plan most q in
    starts a body i k (stands-lowered plan most s a body i (Some (action.Submit k)) at)
    (⊎_elim
    (λ (few : (threads plan s q < most q) × ((pool_at plan q).unbounded ≡ false)).
    let fewer : threads plan s q < most q = few.0 in
    inl (omega arith, unbounded-lowered plan most q ∙ few.1))
    (λ (few : threads plan s q < (pool_at plan q).core). inr (omega arith)) (below a body i k at (started_answer plan s s' a body i k (length s.jobs) at is_step)))
happens-lowered plan most s s' e o ordered between below (queues a body i k at room) is_step =
    let q = pool_of plan k in
    queues a body i k (stands-lowered plan most s a body i (Some (action.Submit k)) at)
    (subst (λ (limit : ℕ). length (pool_part s q).queue < limit) (sym (room-lowered plan most q (pool_part s q).idle (length (pool_part s q).queue))) room)
happens-lowered plan most s s' e o ordered between below (is_refused a body i k at must no_room all_started) is_step =
    let q = pool_of plan k in
    let inside = ordered.pools k (class_exists plan s a body i k ordered at) in
    let low = (between q inside).1 in
    let full = no_room.1 in
    is_refused a body i k (stands-lowered plan most s a body i (Some (action.Submit k)) at) (may_reject-lowered plan most q ∙ must)
    (unbounded-lowered plan most q ∙ no_room.0, omega (arith, queue-lowered plan most q)) (omega (arith, max-lowered plan most q inside))
happens-lowered plan most s s' e o ordered between below (is_rejected a body i k at may) is_step =
    is_rejected a body i k (stands-lowered plan most s a body i (Some (action.Submit k)) at) (may_reject-lowered plan most (pool_of plan k) ∙ may)
happens-lowered plan most s s' e o ordered between below (gets a body i t j at is_child done) is_step = gets a body i t j (stands-lowered plan most s a body i (Some (action.Get t)) at) is_child done
happens-lowered plan most s s' e o ordered between below (finishes j body i at) is_step = finishes j body i (stands-lowered plan most s (parent.Job j) body i None at)
happens-lowered plan most s s' e o ordered between below (loops c client body i at is_client repeats) is_step = loops c client body i (stands-lowered plan most s (parent.Client c) body i None at) is_client repeats
happens-lowered plan most s s' e o ordered between below (takes p j queue idle is_queue is_idle) is_step = takes p j queue idle is_queue is_idle
happens-lowered plan most s s' e o ordered between below (retires p idle is_idle not_handed) is_step =
    retires p idle is_idle (λ bounded none. not_handed (sym (unbounded-lowered plan most p) ∙ bounded) (sym (queue-lowered plan most p) ∙ none))
