-- The plan with the raised cores and queues: it has the shape of the plan, and room for the totals if its sizes suffice.
use Rattle.std.proofs.Common.{◌≡◌, ℕ, ◌+◌, ◌-◌, ◌<◌, ◌≤◌, max, inl, inr, Bool, true, false, cond, not, ltb, List, length, Option, Some, None, refl, ap, sym, ◌∙◌, arith, zero-add}
use Rattle.std.specs.List.{list_all}
use Rattle.std.proofs.lemmas.Bool.{cases_lt, not-true, ltb-false, le-ltb}
use Rattle.std.proofs.lemmas.List.{get_or_past}
use Rattle.std.proofs.lemmas.Option.{slice_get-get_or}
use Rattle.support.proofs.Members.{In-enumerate_from, In-get_or, list_all_at_In}
use Rattle.job_bodies.specs.Plan.{Pool, Plan, no_pool, pool_at, least_threads, needs_no_bound}
use Rattle.job_bodies.specs.WellFormed.{has_valid_sizes}
use Rattle.weights.specs.declared.bound.Bound.{Bound}
use Rattle.weights.specs.declared.bound.Bound.TheVariants.{Standing, Lifetime}
use Rattle.weights.specs.Vector.{Vector, total}
use Rattle.weights.specs.Lifetime.{lifetime_limit}
use Rattle.cert_text.specs.Cert.{Cert, pool_cert_at}
use Rattle.size_search.specs.Fitted.{core_needed, queue_of_bound, queue_needed, with_core, raised_pool, raised, has_queue, have_queues, has_threads, have_threads, shape, KeepsQueues, KeepsCores, IsNoSmaller, limit_of}
use Rattle.size_search.proofs.Shapes.{bare, pool_at-shape, length-shape, total-shape, total_of}
use Rattle.size_search.proofs.Numbered.{numbered_at, numbered_past, map-numbered}
use Rattle.size_search.proofs.TotalRows.{TotalsHold, same_in_shape}
use Rattle.size_search.proofs.Changes.{HasSizes, has_sizes}

-- ---- plans of the same shape

-- plans of the same shape have equally many pools, the same totals, and pools that differ only in core and queue
pub record HasShape (plan other : Plan) : Type 0 where
  pub may_reject : (p : ℕ) → (pool_at other p).may_reject ≡ (pool_at plan p).may_reject
  pub unbounded : (p : ℕ) → (pool_at other p).unbounded ≡ (pool_at plan p).unbounded
  pub boundless : (p : ℕ) → needs_no_bound (pool_at other p) ≡ needs_no_bound (pool_at plan p)
  pub as_many : length other.pools ≡ length plan.pools
  pub total : (v : Vector) → total other v ≡ total plan v
  pub max : (p : ℕ) → (pool_at other p).max ≡ (pool_at plan p).max
  pub prestart : (p : ℕ) → (pool_at other p).prestart ≡ (pool_at plan p).prestart
  pub timeout : (p : ℕ) → (pool_at other p).core_timeout ≡ (pool_at plan p).core_timeout

pub has_shape : (plan other : Plan) → shape other ≡ shape plan → HasShape plan other
has_shape plan other same = record {
  may_reject = λ p. same_in_shape (λ (any : Plan). (pool_at any p).may_reject) plan other (λ any. ap (λ (pool : Pool). pool.may_reject) (pool_at-shape any p)) same;
  unbounded = λ p. same_in_shape (λ (any : Plan). (pool_at any p).unbounded) plan other (λ any. ap (λ (pool : Pool). pool.unbounded) (pool_at-shape any p)) same;
  boundless = λ p. same_in_shape (λ (any : Plan). needs_no_bound (pool_at any p)) plan other (λ any. ap needs_no_bound (pool_at-shape any p)) same;
  as_many = same_in_shape (λ (any : Plan). length any.pools) plan other length-shape same;
  total = λ v. same_in_shape (λ (any : Plan). total any v) plan other (λ any. total-shape any v) same;
  max = λ p. same_in_shape (λ (any : Plan). (pool_at any p).max) plan other (λ any. ap (λ (pool : Pool). pool.max) (pool_at-shape any p)) same;
  prestart = λ p. same_in_shape (λ (any : Plan). (pool_at any p).prestart) plan other (λ any. ap (λ (pool : Pool). pool.prestart) (pool_at-shape any p)) same;
  timeout = λ p. same_in_shape (λ (any : Plan). (pool_at any p).core_timeout) plan other (λ any. ap (λ (pool : Pool). pool.core_timeout) (pool_at-shape any p)) same;
}

-- ---- the raised plan

pub raised-shape : (plan : Plan) (cert : Cert) → shape (raised plan cert) ≡ shape plan
raised-shape plan cert =
    ap (λ (pools : List Pool). record plan { pools = pools }) (map-numbered bare (λ (entry : ℕ × Pool). raised_pool plan (pool_cert_at cert entry.0) entry.1) bare 0 plan.pools (λ i pool. refl))

pub raised_at : (plan : Plan) (cert : Cert) (p : ℕ) → p < length plan.pools → pool_at (raised plan cert) p ≡ raised_pool plan (pool_cert_at cert p) (pool_at plan p)
raised_at plan cert p inside =
    numbered_at (λ (entry : ℕ × Pool). raised_pool plan (pool_cert_at cert entry.0) entry.1) 0 plan.pools p no_pool no_pool inside
    ∙ ap (λ (j : ℕ). raised_pool plan (pool_cert_at cert j) (pool_at plan p)) (zero-add p)

pub raised_past : (plan : Plan) (cert : Cert) (p : ℕ) → length plan.pools ≤ p → pool_at (raised plan cert) p ≡ pool_at plan p
raised_past plan cert p past =
    numbered_past (λ (entry : ℕ × Pool). raised_pool plan (pool_cert_at cert entry.0) entry.1) 0 plan.pools p no_pool past ∙ sym (get_or_past plan.pools p no_pool past)

-- the queue of a raised pool is no smaller than the pool's queue, and that of a pool that needs no bound is the same
pub kept_or_raised : (b : Bool) (q needed : ℕ) → q ≤ cond b q (max q needed)
kept_or_raised true q needed = omega arith
kept_or_raised false q needed = omega arith

-- no size of the raised plan is smaller than that of the plan
pub raised_no_smaller : (plan : Plan) (cert : Cert) → IsNoSmaller (raised plan cert) plan
raised_no_smaller plan cert = record { core = λ p. (at_pool p).0; queue = λ p. (at_pool p).1 }
  where
    at_pool : (p : ℕ) → ((pool_at plan p).core ≤ (pool_at (raised plan cert) p).core) × ((pool_at plan p).queue ≤ (pool_at (raised plan cert) p).queue)
    at_pool p = elim (cases_lt p (length plan.pools)) [
      | inl inside ↦ let is = raised_at plan cert p inside in
          let core = ap (λ (pool : Pool). pool.core) is in
          let queue = ap (λ (pool : Pool). pool.queue) is in
          (omega (arith, core, kept_or_raised (pool_at plan p).core_timeout (pool_at plan p).core (core_needed plan (pool_cert_at cert p).blocked)), omega (arith, kept_or_raised (needs_no_bound (pool_at plan p)) (pool_at plan p).queue (queue_needed plan (pool_cert_at cert p).bound (with_core plan (pool_cert_at cert p).blocked (pool_at plan p)))))
      | inr past ↦ let is = raised_past plan cert p past in
          let core = ap (λ (pool : Pool). pool.core) is in
          let queue = ap (λ (pool : Pool). pool.queue) is in
          (omega arith, omega arith)
    ]

-- the queue of a pool that needs no bound stays unchanged in the raised plan
pub raised_keeps_queues : (plan : Plan) (cert : Cert) → KeepsQueues plan (raised plan cert)
raised_keeps_queues plan cert = record { same_queue = at_pool }
  where
    at_pool : (p : ℕ) → needs_no_bound (pool_at plan p) ≡ true → (pool_at (raised plan cert) p).queue ≡ (pool_at plan p).queue
    at_pool p none = elim (cases_lt p (length plan.pools)) [
      | inl inside ↦
          let pool = pool_at plan p in
          let needed = queue_needed plan (pool_cert_at cert p).bound (with_core plan (pool_cert_at cert p).blocked pool) in
          ap (λ (any : Pool). any.queue) (raised_at plan cert p inside) ∙ ap (λ (b : Bool). cond b pool.queue (max pool.queue needed)) none
      | inr past ↦ ap (λ (pool : Pool). pool.queue) (raised_past plan cert p past)
    ]

-- a core whose threads may time out stays unchanged in the raised plan
pub raised_keeps_cores : (plan : Plan) (cert : Cert) → KeepsCores plan (raised plan cert)
raised_keeps_cores plan cert = record { same_core = at_pool }
  where
    at_pool : (p : ℕ) → (pool_at plan p).core_timeout ≡ true → (pool_at (raised plan cert) p).core ≡ (pool_at plan p).core
    at_pool p may_lose = elim (cases_lt p (length plan.pools)) [
      | inl inside ↦
          let pool = pool_at plan p in
          let needed = core_needed plan (pool_cert_at cert p).blocked in
          ap (λ (any : Pool). any.core) (raised_at plan cert p inside) ∙ ap (λ (b : Bool). cond b pool.core (max pool.core needed)) may_lose
      | inr past ↦ ap (λ (pool : Pool). pool.core) (raised_past plan cert p past)
    ]

-- ---- the room that a pool has

-- the limit of the total of a pool's bound; 0 if there is no bound
abbrev pub pool_limit : Option Bound → Pool → ℕ
pool_limit None pool = 0
pool_limit (Some (Standing v)) pool = pool.queue
pool_limit (Some (Lifetime v)) pool = lifetime_limit pool

pub limit_of-pool : (plan : Plan) (p : ℕ) (bound : Option Bound) → limit_of plan p bound ≡ pool_limit bound (pool_at plan p)
limit_of-pool plan p None = refl
limit_of-pool plan p (Some (Standing v)) = refl
limit_of-pool plan p (Some (Lifetime v)) = refl

-- plans with the same totals have the same total of a bound
pub same_total : (plan other : Plan) (bound : Option Bound) → ((v : Vector) → total other v ≡ total plan v) → total_of other bound ≡ total_of plan bound
same_total plan other None same = refl
same_total plan other (Some (Standing v)) same = same v
same_total plan other (Some (Lifetime v)) same = same v

-- if the queue of a pool is bounded, the queue that a bound requires of it is `queue_of_bound`
needed_if_bounded : (plan : Plan) (bound : Bound) (pool : Pool) → pool.unbounded ≡ false → queue_needed plan (Some bound) pool ≡ queue_of_bound plan bound pool
needed_if_bounded plan bound pool bounded = ap (λ (b : Bool). cond b 0 (queue_of_bound plan bound pool)) bounded

-- the queue has room for a total that is at most the queue plus the threads that start with a job
lifetime_room : (timeout prestart : Bool) (core max queue total : ℕ) → core ≤ max → total - cond timeout 0 (max - cond prestart core 0) ≤ queue → total ≤ cond timeout queue (queue + max - cond prestart core 0)
lifetime_room true prestart core max queue total within enough = omega (arith, enough)
lifetime_room false true core max queue total within enough = omega (arith, enough, within)
lifetime_room false false core max queue total within enough = omega (arith, enough)

-- a pool whose queue is as large as its bound requires, and not unbounded, has room for the total of the bound
bound_has_room : (plan : Plan) (bound : Option Bound) (pool : Pool) → pool.core ≤ pool.max → pool.unbounded ≡ false → queue_needed plan bound pool ≤ pool.queue → total_of plan bound ≤ pool_limit bound pool
bound_has_room plan None pool within bounded enough = omega arith
bound_has_room plan (Some (Standing v)) pool within bounded enough = omega (arith, needed_if_bounded plan (Standing v) pool bounded, enough)
bound_has_room plan (Some (Lifetime v)) pool within bounded enough =
    lifetime_room pool.core_timeout pool.prestart pool.core pool.max pool.queue (total plan v) within (omega (arith, needed_if_bounded plan (Lifetime v) pool bounded, enough))

-- a queue is as large as its bound requires if the test says so
has_queue_means : (plan : Plan) (bound : Option Bound) (pool : Pool) → has_queue plan bound pool ≡ true → queue_needed plan bound pool ≤ pool.queue
has_queue_means plan bound pool enough = ltb-false pool.queue (queue_needed plan bound pool) (not-true (ltb pool.queue (queue_needed plan bound pool)) enough)

pub has_queue_from : (plan : Plan) (bound : Option Bound) (pool : Pool) → queue_needed plan bound pool ≤ pool.queue → has_queue plan bound pool ≡ true
has_queue_from plan bound pool enough = ap not (le-ltb pool.queue (queue_needed plan bound pool) enough)

-- each queue of the raised plan is as large as its bound requires
pub queues_enough : (plan : Plan) (cert : Cert) → have_queues plan cert ≡ true → (p : ℕ) → p < length (raised plan cert).pools → queue_needed plan (pool_cert_at cert p).bound (pool_at (raised plan cert) p) ≤ (pool_at (raised plan cert) p).queue
queues_enough plan cert enough p inside =
    has_queue_means plan (pool_cert_at cert p).bound (pool_at (raised plan cert) p)
    (list_all_at_In (λ (entry : ℕ × Pool). has_queue plan (pool_cert_at cert entry.0).bound entry.1) enough
    (In-enumerate_from 0 (raised plan cert).pools p (pool_at (raised plan cert) p) p (slice_get-get_or (raised plan cert).pools p no_pool inside) (zero-add p)))

-- a pool has as many threads as its blocked vector requires if the test says so
has_threads_means : (plan : Plan) (v : Vector) (pool : Pool) → has_threads plan v pool ≡ true → core_needed plan v ≤ least_threads pool
has_threads_means plan v pool enough = ltb-false (least_threads pool) (core_needed plan v) (not-true (ltb (least_threads pool) (core_needed plan v)) enough)

pub has_threads_from : (plan : Plan) (v : Vector) (pool : Pool) → core_needed plan v ≤ least_threads pool → has_threads plan v pool ≡ true
has_threads_from plan v pool enough = ap not (le-ltb (least_threads pool) (core_needed plan v) enough)

-- each pool of the raised plan has as many threads as its blocked vector requires
threads_enough : (plan : Plan) (cert : Cert) → have_threads plan cert ≡ true → (p : ℕ) → p < length (raised plan cert).pools → core_needed plan (pool_cert_at cert p).blocked ≤ least_threads (pool_at (raised plan cert) p)
threads_enough plan cert enough p inside =
    has_threads_means plan (pool_cert_at cert p).blocked (pool_at (raised plan cert) p)
    (list_all_at_In (λ (entry : ℕ × Pool). has_threads plan (pool_cert_at cert entry.0).blocked entry.1) enough
    (In-enumerate_from 0 (raised plan cert).pools p (pool_at (raised plan cert) p) p (slice_get-get_or (raised plan cert).pools p no_pool inside) (zero-add p)))

pub raised_totals : (plan : Plan) (cert : Cert) → list_all has_valid_sizes (raised plan cert).pools ≡ true → have_queues plan cert ≡ true → have_threads plan cert ≡ true → TotalsHold (raised plan cert) cert
raised_totals plan cert sized enough threads =
    let alike = has_shape plan (raised plan cert) (raised-shape plan cert) in
    record {
      bounds = λ p inside bounded.
          let bound = (pool_cert_at cert p).bound in
          let pool = pool_at (raised plan cert) p in
          omega (arith, limit_of-pool (raised plan cert) p bound, same_total plan (raised plan cert) bound alike.total, bound_has_room plan bound pool (valid p inside).max bounded (queues_enough plan cert enough p inside));
      blocked = λ p inside. omega (arith, alike.total (pool_cert_at cert p).blocked, threads_enough plan cert threads p inside);
    }
  where
    valid : (p : ℕ) → p < length (raised plan cert).pools → HasSizes (pool_at (raised plan cert) p)
    valid p inside = has_sizes (pool_at (raised plan cert) p) (list_all_at_In has_valid_sizes sized (In-get_or (raised plan cert).pools p no_pool inside))
