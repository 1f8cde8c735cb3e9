-- Properties of the view of a reachable state of a plan.
use Rattle.std.proofs.Common.{◌≡◌, ℕ, zero, suc, ◌+◌, ◌<◌, ◌≤◌, Bool, true, cond, List, [], ◌∷◌, length, get_or, count_by, Option, Some, None, slice_get, IfSome, ◌&&◌, ◌==◌, inl, inr, refl, sym, ap, subst, ◌∙◌, arith, eq-eqb}
use Rattle.std.specs.Option.{option_map}
use Rattle.std.proofs.lemmas.Bool.{cases_lt}
use Rattle.std.proofs.lemmas.List.{get_or_past}
use Rattle.std.proofs.lemmas.List.Sums.{sum_by-cons}
use Rattle.std.proofs.lemmas.Option.{same_Some}
use Rattle.job_bodies.specs.declared.action.Action.TheVariants.{Submit, Get}
use Rattle.job_bodies.specs.Plan.{Plan}
use Rattle.job_bodies.specs.WellFormed.{IsWellFormed}
use Rattle.job_bodies.specs.ValidBody.{IsValidBody}
use Rattle.job_bodies.proofs.Bodies.{HasValidBodies, ordered}
use Rattle.pool_machine.specs.declared.parent.Parent.{Parent}
use Rattle.pool_machine.specs.declared.parent.Parent.TheVariants as parent
use Rattle.pool_machine.specs.PoolState.{PoolView}
use Rattle.pool_machine.specs.State.{Stage, CreatedJob, State, no_job, job_at, is_at, pool_of, pool_seen, is_busy_in, busy}
use Rattle.pool_machine.specs.Reach.{IsReached}
use Rattle.pool_machine.proofs.Positions.{stage_of_standing, At≢Claimed, job_made}
use Rattle.pool_machine.specs.Step.{Point, point_of_client}
use Rattle.interleaving.specs.declared.job_view.Phase.{Phase}
use Rattle.interleaving.specs.declared.job_view.Phase.TheVariants as phase
use Rattle.interleaving.specs.declared.job_view.JobView.{JobView}
use Rattle.interleaving.specs.LiveView.{View, live_view, phase_seen, job_with, job_seen}
use Rattle.interleaving.specs.ViewStep.{live_job, point_of_phase, point_of_live_job, point_in, pool_in}
use Rattle.pool_machine.proofs.Reached.{kept}
use Rattle.interleaving.proofs.View.{length-pools, pool_at_view, view_at, point_seen}
use Rattle.interleaving.specs.declared.next_action.NextAction.{NextAction}
use Rattle.interleaving.specs.NextAction.{next_action_at}
use Rattle.interleaving.specs.OfPlan.{IsReachableView, HasWorker, IsAtWork}

-- the view has as many pools as the plan
pub as_many_pools : (plan : Plan) (view : View) → IsReachableView plan view → length view.pools ≡ length plan.pools
as_many_pools plan view of = subst (λ v. length v.pools ≡ length plan.pools) of.2 (length-pools plan of.0)

-- ---- bodies

valid_phase : (plan : Plan) (k : ℕ) (phase : Phase) (at : Point) → HasValidBodies plan → point_of_phase plan k phase ≡ Some at → IsValidBody plan at.body
valid_phase plan k phase.Queued at o e = absurd cc
valid_phase plan k (phase.At i) at o e = subst (λ (x : Point). IsValidBody plan x.body) (same_Some _ at e) (o.classes k)
valid_phase plan k phase.Done at o e = absurd cc

valid_job : (plan : Plan) (job : Option JobView) (at : Point) → HasValidBodies plan → point_of_live_job plan job ≡ Some at → IsValidBody plan at.body
valid_job plan None at o e = absurd cc
valid_job plan (Some job) at o e = valid_phase plan job.class job.phase at o e

valid_client : (plan : Plan) (found : Option _) (at : Point) → HasValidBodies plan → option_map (point_of_client plan) found ≡ Some at → IsValidBody plan at.body
valid_client plan None at o e = absurd cc
valid_client plan (Some client) at o e = subst (λ (x : Point). IsValidBody plan x.body) (same_Some _ at e) (o.clients client.kind)

-- the body of an actor is valid
valid_point : (plan : Plan) (view : View) (a : Parent) (at : Point) → HasValidBodies plan → point_in plan view a ≡ Some at → IsValidBody plan at.body
valid_point plan view (parent.Client c) at o e = valid_client plan (slice_get view.clients c) at o e
valid_point plan view (parent.Job j) at o e = valid_job plan (live_job view.jobs j) at o e

-- if an actor's next action is `next`, the actor is at a point, and `next` is the next action there
pub point_of_next : (at : Option Point) (next : NextAction) → option_map next_action_at at ≡ Some next → (x : Point) × (at ≡ Some x) × (next_action_at x ≡ next)
point_of_next None next e = absurd cc
point_of_next (Some x) next e = (x, refl, same_Some _ next e)

-- the pool of a submitted class is a pool of the view
pub pool_of_submit : (plan : Plan) (view : View) (a : Parent) (next : NextAction) (k : ℕ) → IsReachableView plan view → IsWellFormed plan → option_map next_action_at (point_in plan view a) ≡ Some next → next.action ≡ Some (Submit k) → pool_of plan k < length view.pools
pool_of_submit plan view a next k of w e submits =
    let o = ordered plan w in
    let found = point_of_next (point_in plan view a) next e in
    let valid = valid_point plan view a found.0 o found.1 in
    let class = valid.submit found.0.position k (ap (λ (p : NextAction). p.action) found.2 ∙ submits) in
    let pools = as_many_pools plan view of in
    let inside = o.pools k class in
    omega arith

-- an actor at a get is past the start of its body
pub past_start : (plan : Plan) (view : View) (a : Parent) (next : NextAction) (t : ℕ) → IsWellFormed plan → option_map next_action_at (point_in plan view a) ≡ Some next → next.action ≡ Some (Get t) → 0 < next.position
past_start plan view a next t w e gets =
    let found = point_of_next (point_in plan view a) next e in
    let valid = valid_point plan view a found.0 (ordered plan w) found.1 in
    let behind = valid.behind found.0.position t (ap (λ (p : NextAction). p.action) found.2 ∙ gets) in
    let same = ap (λ (p : NextAction). p.position) found.2 in
    omega (arith, behind, same)

-- ---- running jobs

-- a running job has a class of the plan
pub class_inside : (plan : Plan) (s : State) (j i : ℕ) → IsReached plan s → IsWellFormed plan → (job_at s j).stage ≡ Stage.At i → (job_at s j).class < length plan.classes
class_inside plan s j i reached w stage = (kept plan s w reached).classes j no_job (job_made s j (At≢Claimed stage))

count_by-some : {X : Type 0} (test : X → Bool) (xs : List X) (i : ℕ) (d : X) → i < length xs → test (get_or xs i d) ≡ true → 1 ≤ count_by test xs
count_by-some test [] i d inside passes = absurd (omega arith)
count_by-some test (x ∷ xs) zero d inside passes =
    let count : count_by test (x ∷ xs) ≡ cond (test x) 1 0 + count_by test xs = sum_by-cons (λ y. cond (test y) 1 0) x xs in
    let first : cond {A = ℕ} (test x) 1 0 ≡ 1 = ap (λ b. cond b 1 0) passes in
    omega arith
count_by-some test (x ∷ xs) (suc i) d inside passes =
    let count : count_by test (x ∷ xs) ≡ cond (test x) 1 0 + count_by test xs = sum_by-cons (λ y. cond (test y) 1 0) x xs in
    let later : 1 ≤ count_by test xs = count_by-some test xs i d (omega arith) passes in
    omega arith

-- the pool of a running job has a busy thread
busy_at : (plan : Plan) (s : State) (j i : ℕ) → (job_at s j).stage ≡ Stage.At i → 1 ≤ busy plan s (pool_of plan (job_at s j).class)
busy_at plan s j i stage =
    let p = pool_of plan (job_at s j).class in
    count_by-some (is_busy_in plan p) s.jobs j no_job (job_made s j (At≢Claimed stage)) (ap (λ st. is_at st && p == p) stage ∙ eq-eqb p p refl)

has_worker : (plan : Plan) (s : State) (j i : ℕ) (job : JobView) → job.class ≡ (job_at s j).class → (job_at s j).stage ≡ Stage.At i → pool_of plan (job_at s j).class < length plan.pools → HasWorker plan (live_view plan s) job
has_worker plan s j i job class stage inside =
    let p = pool_of plan (job_at s j).class in
    let pool : pool_of plan job.class ≡ p = ap (pool_of plan) class in
    let seen = pool_at_view plan s p inside in
    let worker = busy_at plan s j i stage in
    let some_busy : (pool_seen plan s p).idle < (pool_seen plan s p).threads = omega arith in
    record {
      pool = omega (arith, pool, inside, length-pools plan s);
      busy = subst (λ q. (pool_in (live_view plan s) q).idle < (pool_in (live_view plan s) q).threads) (sym pool) (subst (λ (x : PoolView). x.idle < x.threads) (sym seen) some_busy);
    }

job_at_work : (plan : Plan) (s : State) (j : ℕ) (at : Point) → IsReached plan s → IsWellFormed plan → point_in plan (live_view plan s) (parent.Job j) ≡ Some at → IsAtWork plan (live_view plan s) (parent.Job j)
job_at_work plan s j at reached w e =
    let made = job_at s j in
    let stage = (stage_of_standing plan made.class made.stage at.body at.position (sym (point_seen plan s (parent.Job j)) ∙ e)).0 in
    let job : JobView = record { class = made.class; parent = made.parent; slot = made.slot; phase = phase.At at.position } in
    let seen : live_job (live_view plan s).jobs j ≡ Some job = view_at plan s j ∙ ap (λ st. job_with made (phase_seen s j made st)) stage in
    let inside = (ordered plan w).pools made.class (class_inside plan s j at.position reached w stage) in
    subst (λ (o : Option JobView). IfSome o (HasWorker plan (live_view plan s))) (sym seen) (has_worker plan s j at.position job refl stage inside)

-- an actor with a next action is a client, or a job whose pool has a busy worker
pub at_work : (plan : Plan) (view : View) (a : Parent) (next : NextAction) → IsReachableView plan view → IsWellFormed plan → option_map next_action_at (point_in plan view a) ≡ Some next → IsAtWork plan view a
at_work plan view (parent.Client c) next of w e = tt
at_work plan view (parent.Job j) next of w e =
    let found = point_of_next (point_in plan view (parent.Job j)) next e in
    subst (λ (v : View). point_in plan v (parent.Job j) ≡ Some found.0 → IsAtWork plan v (parent.Job j)) of.2 (job_at_work plan of.0 j found.0 of.1 w) found.1

-- ---- live jobs

job_of_seen : (made : CreatedJob) (phase : Option Phase) (job : JobView) → job_with made phase ≡ Some job → job.class ≡ made.class
job_of_seen made None job e = absurd cc
job_of_seen made (Some phase) job e = ap (λ (x : JobView). x.class) (sym (same_Some _ job e))

pub made_if_seen : (s : State) (j : ℕ) (job : JobView) → job_seen s j (job_at s j) ≡ Some job → j < length s.jobs
made_if_seen s j job e = elim (cases_lt j (length s.jobs)) [
  | inl inside ↦ inside
  | inr past ↦ let none : job_at s j ≡ no_job = get_or_past s.jobs j no_job past in
      let unseen : ◌≡◌ {A = Option JobView} None (Some job) = sym (ap (job_seen s j) none) ∙ e in
      absurd cc
]

class_of_seen : (plan : Plan) (s : State) (j : ℕ) (job : JobView) → IsReached plan s → IsWellFormed plan → live_job (live_view plan s).jobs j ≡ Some job → pool_of plan job.class < length (live_view plan s).pools
class_of_seen plan s j job reached w e =
    let seen : job_seen s j (job_at s j) ≡ Some job = sym (view_at plan s j) ∙ e in
    let class = job_of_seen (job_at s j) (phase_seen s j (job_at s j) (job_at s j).stage) job seen in
    let known : job.class < length plan.classes = subst (λ k. k < length plan.classes) (sym class) ((kept plan s w reached).classes j no_job (made_if_seen s j job seen)) in
    let inside = (ordered plan w).pools job.class known in
    omega (arith, length-pools plan s)

-- the pool of a live job is a pool of the plan
pub pool_of_live_job : (plan : Plan) (view : View) (j : ℕ) (job : JobView) → IsReachableView plan view → IsWellFormed plan → live_job view.jobs j ≡ Some job → pool_of plan job.class < length plan.pools
pool_of_live_job plan view j job of w found =
    let inside = subst (λ (v : View). live_job v.jobs j ≡ Some job → pool_of plan job.class < length v.pools) of.2 (class_of_seen plan of.0 j job of.1 w) found in
    omega (arith, as_many_pools plan view of)
