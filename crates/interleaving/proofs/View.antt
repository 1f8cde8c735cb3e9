-- The live view of a state, element by element.
use Rattle.std.proofs.Common.{◌≡◌, ◌≢◌, ℕ, ◌+◌, ◌<◌, Bool, true, false, ◌&&◌, if◌then◌else◌, List, length, get_or, set, Option, Some, None, inl, inr, ⊎_elim, refl, sym, ap, ap₂, ◌∙◌, arith, zero-add, length-set, ext_get_or}
use Rattle.std.specs.List.{enumerate_from}
use Rattle.std.proofs.lemmas.Bool.{cases_lt, cases_eq}
use Rattle.std.proofs.lemmas.List.{length-map, get_or-map, get_or_past, get_or-set_same, get_or-set_other}
use Rattle.std.proofs.lemmas.List.FromFn.{length-enumerate_from, get_or-enumerate_from}
use Rattle.job_bodies.specs.Plan.{Plan, no_pool, pool_at}
use Rattle.pool_machine.specs.PoolState.{PoolView}
use Rattle.pool_machine.specs.declared.parent.Parent.{Parent}
use Rattle.pool_machine.specs.declared.parent.Parent.TheVariants as parent
use Rattle.interleaving.specs.declared.job_view.Phase.{Phase}
use Rattle.interleaving.specs.declared.job_view.Phase.TheVariants as phase
use Rattle.interleaving.specs.declared.job_view.JobView.{JobView}
use Rattle.pool_machine.specs.State.{Stage, CreatedJob, State, no_job, job_at, pool_seen, is_unfinished, child, PoolPart, no_pool_part, pool_part, part_of, pool_view, busy}
use Rattle.pool_machine.specs.State.Stage.{Queued, At, Done, Claimed}
use Rattle.pool_machine.specs.Step.{point, point_of_job, with_pool}
use Rattle.interleaving.specs.LiveView.{may_get, is_number, phase_seen, job_with, job_seen, View, live_view}
use Rattle.interleaving.specs.ViewStep.{live_job, is_unfinished_job, may_get_in, point_of_live_job, point_in, no_pool_view, pool_in}

-- the live job with number n in the view of the state, or None if that job is not live
abbrev pub seen : State → ℕ → Option JobView
seen s n = job_seen s n (job_at s n)

-- the phase of a live job, computed from whether its parent may still get it and from the latest job of its submit
abbrev pub phase_with : Bool → Option ℕ → ℕ → Stage → Option Phase
phase_with asks latest j Queued = Some phase.Queued
phase_with asks latest j (At i) = Some (phase.At i)
phase_with asks latest j Done = if asks && is_number latest j then Some phase.Done else None
phase_with asks latest j Claimed = None

phase_seen-with : (s : State) (j : ℕ) (job : CreatedJob) (stage : Stage) → phase_seen s j job stage ≡ phase_with (may_get s job.parent) (child s job.parent job.slot) j stage
phase_seen-with s j job Queued = refl
phase_seen-with s j job (At i) = refl
phase_seen-with s j job Done = refl
phase_seen-with s j job Claimed = refl

pub job_seen-with : (s : State) (j : ℕ) (job : CreatedJob) → job_seen s j job ≡ job_with job (phase_with (may_get s job.parent) (child s job.parent job.slot) j job.stage)
job_seen-with s j job = ap (job_with job) (phase_seen-with s j job job.stage)

-- ---- the jobs

pub length-view : (plan : Plan) (s : State) → length (live_view plan s).jobs ≡ length s.jobs
length-view plan s = length-map (enumerate_from 0 s.jobs) (λ entry. job_seen s entry.0 entry.1) ∙ length-enumerate_from 0 s.jobs

pub view_at : (plan : Plan) (s : State) (j : ℕ) → live_job (live_view plan s).jobs j ≡ seen s j
view_at plan s j = elim (cases_lt j (length s.jobs)) [
  | inl inside ↦ let f : ℕ × CreatedJob → Option JobView = λ entry. job_seen s entry.0 entry.1 in
      let long = length-enumerate_from 0 s.jobs in
      get_or-map f (enumerate_from 0 s.jobs) j (0, no_job) None (omega arith) ∙ ap f (get_or-enumerate_from 0 s.jobs j (0, no_job) inside) ∙ ap (λ k. job_seen s k (job_at s j)) (zero-add j)
  | inr past ↦ let long = length-view plan s in
      get_or_past (live_view plan s).jobs j None (omega arith) ∙ sym (ap (job_seen s j) (get_or_past s.jobs j no_job past))
]

-- a list that agrees with each element of the view is the list of jobs of the view
pub jobs_are : (plan : Plan) (s : State) (jobs : List (Option JobView)) → length jobs ≡ length s.jobs → ((n : ℕ) → n < length s.jobs → seen s n ≡ live_job jobs n) → (live_view plan s).jobs ≡ jobs
jobs_are plan s jobs long each =
    let seen_long = length-view plan s in
    ext_get_or None (live_view plan s).jobs jobs (omega arith) (λ n inside. view_at plan s n ∙ each n (omega arith))

-- ---- the pools

pub length-pools : (plan : Plan) (s : State) → length (live_view plan s).pools ≡ length plan.pools
length-pools plan s = length-map (enumerate_from 0 plan.pools) (λ entry. pool_seen plan s entry.0) ∙ length-enumerate_from 0 plan.pools

pub pool_at_view : (plan : Plan) (s : State) (p : ℕ) → p < length plan.pools → pool_in (live_view plan s) p ≡ pool_seen plan s p
pool_at_view plan s p inside =
    let long = length-enumerate_from 0 plan.pools in
    get_or-map (λ entry. pool_seen plan s entry.0) (enumerate_from 0 plan.pools) p (0, no_pool) no_pool_view (omega arith)
    ∙ ap (λ (entry : ℕ × _). pool_seen plan s entry.0) (get_or-enumerate_from 0 plan.pools p (0, no_pool) inside)
    ∙ ap (pool_seen plan s) (zero-add p)

-- a list that agrees with each pool of the view is the list of pools of the view
pub pools_are : (plan : Plan) (s : State) (pools : List PoolView) → length pools ≡ length plan.pools → ((p : ℕ) → p < length plan.pools → pool_seen plan s p ≡ get_or pools p no_pool_view) → (live_view plan s).pools ≡ pools
pools_are plan s pools long each =
    let seen_long = length-pools plan s in
    ext_get_or no_pool_view (live_view plan s).pools pools (omega arith) (λ p inside. let within : p < length plan.pools = omega arith in pool_at_view plan s p within ∙ each p within)

-- the pools of the view are unchanged if no pool changed
pub same_pools : (plan : Plan) (s s' : State) → ((p : ℕ) → p < length plan.pools → pool_seen plan s' p ≡ pool_seen plan s p) → (live_view plan s').pools ≡ (live_view plan s).pools
same_pools plan s s' each = pools_are plan s' (live_view plan s).pools (length-pools plan s) (λ p inside. each p inside ∙ sym (pool_at_view plan s p inside))

-- only one pool of the view changes if only one pool changed
pub one_pool : (plan : Plan) (s s' : State) (p : ℕ) (pool : PoolView) → p < length plan.pools → pool_seen plan s' p ≡ pool → ((q : ℕ) → q ≢ p → pool_seen plan s' q ≡ pool_seen plan s q) → (live_view plan s').pools ≡ set (live_view plan s).pools p pool
one_pool plan s s' p pool inside here other =
    let long = length-pools plan s in
    let set_long = length-set (live_view plan s).pools p pool in
    pools_are plan s' (set (live_view plan s).pools p pool) (omega arith)
    (λ q within. ⊎_elim (λ (same : q ≡ p). ap (pool_seen plan s') same ∙ here ∙ sym (ap (λ k. get_or (set (live_view plan s).pools p pool) k no_pool_view) same ∙ get_or-set_same (live_view plan s).pools p pool no_pool_view (omega arith)))
    (λ (apart : q ≢ p). other q apart ∙ sym (pool_at_view plan s q within) ∙ sym (get_or-set_other (live_view plan s).pools p q pool no_pool_view apart))
    (cases_eq q p))

-- the view of a pool is unchanged if the number of running jobs of the pool is unchanged
pub pool_seen-busy : (plan : Plan) (s : State) (p count : ℕ) → count ≡ busy plan s p → pool_view (pool_at plan p) (pool_part s p) ((pool_part s p).idle + count) ≡ pool_seen plan s p
pool_seen-busy plan s p count e = ap (λ n. pool_view (pool_at plan p) (pool_part s p) ((pool_part s p).idle + n)) e

-- a change of one pool of the state changes that pool of the view
pub pools-put : (plan : Plan) (s s' : State) (p : ℕ) (pool : PoolView) → s'.pools ≡ s.pools → length s.pools ≡ length plan.pools → p < length plan.pools
    → pool_view (pool_at plan p) (part_of pool) (pool.idle + busy plan s' p) ≡ pool → ((q : ℕ) → q ≢ p → busy plan s' q ≡ busy plan s q)
    → (live_view plan (with_pool p pool s')).pools ≡ set (live_view plan s).pools p pool
pools-put plan s s' p pool same as_many inside here others =
    let part : PoolPart = part_of pool in
    let within : p < length s'.pools = omega (arith, ap length same) in
    one_pool plan s (with_pool p pool s') p pool inside
    (ap (λ x. pool_view (pool_at plan p) x (x.idle + busy plan s' p)) (get_or-set_same s'.pools p part no_pool_part within) ∙ here)
    (λ q other. ap (λ x. pool_view (pool_at plan q) x (x.idle + busy plan s' q)) (get_or-set_other s'.pools p q part no_pool_part other ∙ ap (λ pools. get_or pools q no_pool_part) same) ∙ pool_seen-busy plan s q (busy plan s' q) (others q other))

-- ---- the view as a whole

pub same_views : (v w : View) → v.jobs ≡ w.jobs → v.pools ≡ w.pools → v.clients ≡ w.clients → v.refusals ≡ w.refusals → v ≡ w
same_views v w jobs pools clients refusals =
    let first : v ≡ record { jobs = w.jobs; pools = w.pools; clients = v.clients; refusals = v.refusals } =
    ap₂ (λ js ps. record { jobs = js; pools = ps; clients = v.clients; refusals = v.refusals }) jobs pools in
    first ∙ ap₂ (λ cs rs. record { jobs = w.jobs; pools = w.pools; clients = cs; refusals = rs }) clients refusals

-- ---- the fields of a live job

unfinished_if : (job : CreatedJob) (b : Bool) → is_unfinished_job (job_with job (if b then Some phase.Done else None)) ≡ false
unfinished_if job true = refl
unfinished_if job false = refl

unfinished_with : (job : CreatedJob) (asks : Bool) (latest : Option ℕ) (j : ℕ) (stage : Stage) → is_unfinished_job (job_with job (phase_with asks latest j stage)) ≡ is_unfinished stage
unfinished_with job asks latest j Queued = refl
unfinished_with job asks latest j (At i) = refl
unfinished_with job asks latest j Done = unfinished_if job (asks && is_number latest j)
unfinished_with job asks latest j Claimed = refl

pub unfinished_seen : (s : State) (j : ℕ) (job : CreatedJob) → is_unfinished_job (job_seen s j job) ≡ is_unfinished job.stage
unfinished_seen s j job = ap is_unfinished_job (job_seen-with s j job) ∙ unfinished_with job (may_get s job.parent) (child s job.parent job.slot) j job.stage

pub may_get_seen : (plan : Plan) (s : State) (a : Parent) → may_get_in (live_view plan s).jobs a ≡ may_get s a
may_get_seen plan s (parent.Client c) = refl
may_get_seen plan s (parent.Job j) = ap is_unfinished_job (view_at plan s j) ∙ unfinished_seen s j (job_at s j)

point_if : (plan : Plan) (job : CreatedJob) (b : Bool) → point_of_live_job plan (job_with job (if b then Some phase.Done else None)) ≡ None
point_if plan job true = refl
point_if plan job false = refl

point_with : (plan : Plan) (job : CreatedJob) (asks : Bool) (latest : Option ℕ) (j : ℕ) (stage : Stage) → point_of_live_job plan (job_with job (phase_with asks latest j stage)) ≡ point_of_job plan job.class stage
point_with plan job asks latest j Queued = refl
point_with plan job asks latest j (At i) = refl
point_with plan job asks latest j Done = point_if plan job (asks && is_number latest j)
point_with plan job asks latest j Claimed = refl

-- an actor is at the same position in the view and in the state
pub point_seen : (plan : Plan) (s : State) (a : Parent) → point_in plan (live_view plan s) a ≡ point plan s a
point_seen plan s (parent.Client c) = refl
point_seen plan s (parent.Job j) =
    let job = job_at s j in
    ap (point_of_live_job plan) (view_at plan s j ∙ job_seen-with s j job) ∙ point_with plan job (may_get s job.parent) (child s job.parent job.slot) j job.stage
