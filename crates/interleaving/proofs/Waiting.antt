-- The live view determines waiting sets, unfinished jobs and the initial view.
use Rattle.std.proofs.Common.{◌≡◌, ℕ, ◌+◌, ◌<◌, Bool, true, false, not, ◌&&◌, ◌==◌, if◌then◌else◌, List, [], ◌∷◌, length, map, count_by, slice_get, Option, Some, None, refl, sym, ap, ap₂, ◌∙◌, le_refl, arith}
use Rattle.std.specs.List.{list_all}
use Rattle.std.proofs.lemmas.List.{length-map, get_or-map}
use Rattle.support.specs.Places.{places_where}
use Rattle.support.proofs.PassingPlaces.{places_where-agree_at}
use Rattle.support.proofs.Sums.{count_by-agree_at}
use Rattle.job_bodies.specs.declared.action.Action.{Action}
use Rattle.job_bodies.specs.declared.action.Action.TheVariants.{Work, Submit, Get}
use Rattle.job_bodies.specs.Plan.{Plan, no_pool, pool_at, class_at}
use Rattle.job_bodies.proofs.Bodies.{HasValidBodies}
use Rattle.pool_machine.specs.PoolState.{PoolView, new_pool}
use Rattle.pool_machine.specs.declared.parent.Parent.TheVariants as parent
use Rattle.interleaving.specs.declared.job_view.Phase.TheVariants as phase
use Rattle.pool_machine.specs.State.{Stage, CreatedJob, State, PoolPart, no_job, job_at, pool_of, part_of, pool_view, pool_seen, is_unfinished, is_busy_in, child}
use Rattle.pool_machine.specs.State.Stage.{Queued, At, Done, Claimed}
use Rattle.pool_machine.specs.Step.{point, point_of_job}
use Rattle.pool_machine.specs.Reach.{start}
use Rattle.pool_machine.specs.Waiting.{is_member, is_some_member, is_none, waits_at, waits_at_stage, waits, is_waiting_set}
use Rattle.pool_machine.proofs.StateInvariant.{StateInvariant}
use Rattle.pool_machine.proofs.InvariantAtStart.{pool_part_at_start}
use Rattle.pool_machine.proofs.Positions.{job_made}
use Rattle.pool_machine.proofs.Queues.{Queued≢Claimed, pool_of_made}
use Rattle.interleaving.specs.LiveView.{may_get, is_number, phase_seen, job_with, job_seen, View, live_view}
use Rattle.interleaving.specs.ViewStep.{is_unfinished_job, no_pool_view}
use Rattle.interleaving.specs.Waiting.{is_busy_job, waits_at_in, waits_job, waits_in, is_waiting_set_in}
use Rattle.interleaving.specs.Laws.{new_view}
use Rattle.interleaving.proofs.View.{seen, phase_with, job_seen-with, length-view, view_at, pool_at_view, pools_are, same_views, unfinished_seen}
use Rattle.interleaving.proofs.Changes.{seen_at}
use Rattle.interleaving.proofs.Children.{child_seen}

-- ---- running jobs, and unfinished jobs

busy_if : (plan : Plan) (p : ℕ) (job : CreatedJob) (b : Bool) → is_busy_job plan p (job_with job (if b then Some phase.Done else None)) ≡ false
busy_if plan p job true = refl
busy_if plan p job false = refl

busy_with : (plan : Plan) (p : ℕ) (job : CreatedJob) (asks : Bool) (latest : Option ℕ) (j : ℕ) (stage : Stage) → is_busy_job plan p (job_with job (phase_with asks latest j stage)) ≡ is_busy_in plan p (record job { stage = stage })
busy_with plan p job asks latest j Queued = refl
busy_with plan p job asks latest j (At i) = refl
busy_with plan p job asks latest j Done = busy_if plan p job (asks && is_number latest j)
busy_with plan p job asks latest j Claimed = refl

busy_seen : (plan : Plan) (p : ℕ) (s : State) (j : ℕ) (job : CreatedJob) → is_busy_job plan p (job_seen s j job) ≡ is_busy_in plan p job
busy_seen plan p s j job = ap (is_busy_job plan p) (job_seen-with s j job) ∙ busy_with plan p job (may_get s job.parent) (child s job.parent job.slot) j job.stage

pub busy_places : (plan : Plan) (s : State) (p : ℕ) → places_where (is_busy_job plan p) (live_view plan s).jobs ≡ places_where (is_busy_in plan p) s.jobs
busy_places plan s p =
    let long = length-view plan s in
    places_where-agree_at (is_busy_job plan p) (is_busy_in plan p) (live_view plan s).jobs s.jobs None no_job long
    (λ j inside. ap (is_busy_job plan p) (view_at plan s j) ∙ busy_seen plan p s j (job_at s j))

pub unfinished_counted : (plan : Plan) (s : State) → count_by is_unfinished_job (live_view plan s).jobs ≡ count_by (λ job. is_unfinished job.stage) s.jobs
unfinished_counted plan s =
    count_by-agree_at is_unfinished_job (λ (job : CreatedJob). is_unfinished job.stage) (live_view plan s).jobs s.jobs None no_job (length-view plan s)
    (λ j inside. ap is_unfinished_job (view_at plan s j) ∙ unfinished_seen s j (job_at s j))

-- ---- waiting sets

waits_if : (plan : Plan) (view : View) (members : List ℕ) (j : ℕ) (job : CreatedJob) (b : Bool) → waits_job plan view members j (job_with job (if b then Some phase.Done else None)) ≡ false
waits_if plan view members j job true = refl
waits_if plan view members j job false = refl

list_all_agree : {X : Type 0} (p q : X → Bool) (xs : List X) → ((x : X) → p x ≡ q x) → list_all p xs ≡ list_all q xs
list_all_agree p q [] same = refl
list_all_agree p q (x ∷ xs) same = ap₂ (λ a b. a && b) (same x) (list_all_agree p q xs same)

module _ (plan : Plan) (s : State) (members : List ℕ) (ordered : HasValidBodies plan) (kept : StateInvariant plan s) where
  -- the test of a job at a get has the same result in the view and in the state
  waits_at_seen : (j i : ℕ) (action : Option Action) → (job_at s j).stage ≡ At i → slice_get (class_at plan (job_at s j).class).body i ≡ action
      → waits_at s members (parent.Job j) action ≡ waits_at_in (live_view plan s) members (parent.Job j) action
  waits_at_seen j i None at there = refl
  waits_at_seen j i (Some (Work u)) at there = refl
  waits_at_seen j i (Some (Submit k)) at there = refl
  waits_at_seen j i (Some (Get t)) at there =
      let k = (job_at s j).class in
      let body = (class_at plan k).body in
      let stands : point plan s (parent.Job j) ≡ Some (record { body = body; position = i }) = ap (point_of_job plan k) at in
      let found = (kept.actors (parent.Job j) body i stands).ready i t (le_refl i) ((ordered.classes k).behind i t there) there in
      let is_child : child s (parent.Job j) t ≡ Some found.number = found.is_child in
      ap (is_some_member members) (is_child ∙ sym (child_seen plan s (parent.Job j) t found.number (ap is_unfinished at) is_child found.unclaimed))

  waits_seen_as : (j : ℕ) (stage : Stage) → (job_at s j).stage ≡ stage → waits_at_stage plan s members j (job_at s j).class stage ≡ waits_job plan (live_view plan s) members j (seen s j)
  waits_seen_as j Queued e =
      let view = live_view plan s in
      let p = pool_of plan (job_at s j).class in
      let made = job_made s j (Queued≢Claimed e) in
      let idle = ap (λ (pool : PoolView). pool.idle == 0) (pool_at_view plan s p (pool_of_made plan s j ordered kept made)) in
      let at_work = ap (list_all (is_member members)) (busy_places plan s p) in
      ap₂ (λ a b. a && b) (sym idle) (sym at_work) ∙ sym (ap (waits_job plan view members j) (seen_at s j Queued phase.Queued e refl))
  waits_seen_as j (At i) e =
      waits_at_seen j i (slice_get (class_at plan (job_at s j).class).body i) e refl
      ∙ sym (ap (waits_job plan (live_view plan s) members j) (seen_at s j (At i) (phase.At i) e refl))
  waits_seen_as j Done e =
      let job = job_at s j in
      sym (ap (λ o. waits_job plan (live_view plan s) members j (job_with job o)) (ap (phase_seen s j job) e)
      ∙ waits_if plan (live_view plan s) members j job (may_get s job.parent && is_number (child s job.parent job.slot) j))
  waits_seen_as j Claimed e = sym (ap (λ stage. waits_job plan (live_view plan s) members j (job_with (job_at s j) (phase_seen s j (job_at s j) stage))) e)

  waits_seen : (j : ℕ) → waits plan s members j ≡ waits_in plan (live_view plan s) members j
  waits_seen j = waits_seen_as j (job_at s j).stage refl ∙ sym (ap (waits_job plan (live_view plan s) members j) (view_at plan s j))

  pub waiting_seen : is_waiting_set plan s members ≡ is_waiting_set_in plan (live_view plan s) members
  waiting_seen = ap (λ b. not (is_none members) && b) (list_all_agree (waits plan s members) (waits_in plan (live_view plan s) members) members waits_seen)

-- ---- the initial view

start_pool_seen : (plan : Plan) (p : ℕ) → p < length plan.pools → pool_seen plan (start plan) p ≡ new_pool (pool_at plan p)
start_pool_seen plan p inside =
    let pool = pool_at plan p in
    let threads : (new_pool pool).idle + 0 ≡ (new_pool pool).threads = omega arith in
    ap (λ (part : PoolPart). pool_view pool part (part.idle + 0)) (pool_part_at_start plan p inside) ∙ ap (pool_view pool (part_of (new_pool pool))) threads

pub start_seen : (plan : Plan) → live_view plan (start plan) ≡ new_view plan
start_seen plan =
    let pools = pools_are plan (start plan) (map new_pool plan.pools) (length-map plan.pools new_pool)
    (λ p inside. start_pool_seen plan p inside ∙ sym (get_or-map new_pool plan.pools p no_pool no_pool_view inside)) in
    same_views (live_view plan (start plan)) (new_view plan) refl pools refl refl
