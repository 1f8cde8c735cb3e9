-- A job that is not live never becomes live again.
use Rattle.std.proofs.Common.{◌≡◌, ◌≢◌, ℕ, ◌+◌, ◌<◌, ◌≤◌, Bool, true, false, if◌then◌else◌, List, [], ◌∷◌, ◌++◌, length, map, set, slice_get, Option, Some, None, ⊎_elim, refl, sym, ap, ◌∙◌, arith, length-set, le_refl}
use Rattle.std.proofs.lemmas.Bool.{cases_eq}
use Rattle.std.proofs.lemmas.List.{length-map, length_push, get_or-map, get_or_append_left, get_or-set_same, get_or-set_other}
use Rattle.job_bodies.specs.declared.action.Action.{Action}
use Rattle.job_bodies.specs.declared.action.Action.TheVariants.{Work, Submit, Get}
use Rattle.job_bodies.specs.Plan.{Plan, pool_at, client_at}
use Rattle.pool_machine.specs.declared.offer.Offer.{Offer}
use Rattle.pool_machine.specs.declared.offer.Offer.TheVariants as offer
use Rattle.pool_machine.specs.PoolState.{PoolView, answer, taken, retired}
use Rattle.pool_machine.specs.declared.client_state.ClientState.{ClientState}
use Rattle.pool_machine.specs.declared.parent.Parent.{Parent}
use Rattle.pool_machine.specs.declared.parent.Parent.TheVariants as parent
use Rattle.pool_machine.specs.declared.event.Event.{Event}
use Rattle.pool_machine.specs.declared.event.Event.TheVariants as event
use Rattle.pool_machine.specs.declared.event.Outcome.{Outcome}
use Rattle.pool_machine.specs.declared.event.Outcome.TheVariants as outcome
use Rattle.interleaving.specs.declared.job_view.Phase.{Phase}
use Rattle.interleaving.specs.declared.job_view.Phase.TheVariants as phase
use Rattle.interleaving.specs.declared.job_view.JobView.{JobView}
use Rattle.pool_machine.specs.State.{pool_of}
use Rattle.pool_machine.specs.Step.{Point}
use Rattle.interleaving.specs.LiveView.{View}
use Rattle.interleaving.specs.ViewStep.{live_job, live_child, is_done, in_phase, with_phase, drop_if_stale, drop_if_orphan, finished_if_gettable, move_actor, new_live_job, made, answered_in, got_in, got_child_in, finished_job_in, looped_in, step_action_in, point_in, step_actor, take_head_in, retire_worker_in, pool_in, view_step}

-- each job that is not live in the first list is also not live in the second list, which is at least as long
pub record StaysDead (jobs jobs' : List (Option JobView)) : Type 0 where
  pub long : length jobs ≤ length jobs'
  pub stays : (n : ℕ) → n < length jobs → live_job jobs n ≡ None → live_job jobs' n ≡ None

gone_same : (jobs : List (Option JobView)) → StaysDead jobs jobs
gone_same jobs = record { long = le_refl (length jobs); stays = λ n inside gone. gone }

gone_then : (first second third : List (Option JobView)) → StaysDead first second → StaysDead second third → StaysDead first third
gone_then first second third one two = record {
  long = omega (arith, one.long, two.long);
  stays = λ n inside gone. two.stays n (omega (arith, one.long)) (one.stays n inside gone);
}

gone_set : (jobs : List (Option JobView)) (j : ℕ) (x : Option JobView) → (live_job jobs j ≡ None → x ≡ None) → StaysDead jobs (set jobs j x)
gone_set jobs j x here =
    let long = length-set jobs j x in
    record {
      long = omega arith;
      stays = λ n inside gone. ⊎_elim
          (λ (same : n ≡ j). ap (live_job (set jobs j x)) same ∙ get_or-set_same jobs j x None (omega arith) ∙ here (ap (live_job jobs) (sym same) ∙ gone))
          (λ (other : n ≢ j). get_or-set_other jobs j n x None other ∙ gone)
          (cases_eq n j);
    }

gone_map : (f : Option JobView → Option JobView) (jobs : List (Option JobView)) → f None ≡ None → StaysDead jobs (map f jobs)
gone_map f jobs none =
    let long = length-map jobs f in
    record { long = omega arith; stays = λ n inside gone. get_or-map f jobs n None None inside ∙ ap f gone ∙ none }

gone_push : (jobs : List (Option JobView)) (x : Option JobView) → StaysDead jobs (jobs ++ x ∷ [])
gone_push jobs x =
    let long = length_push jobs x in
    record { long = omega arith; stays = λ n inside gone. get_or_append_left jobs (x ∷ []) None n inside ∙ gone }

gone_phase : (jobs : List (Option JobView)) (j : ℕ) (phase : Phase) → StaysDead jobs (with_phase j phase jobs)
gone_phase jobs j phase = gone_set jobs j (in_phase phase (live_job jobs j)) (λ gone. ap (in_phase phase) gone)

gone_moved : (a : Parent) (i : ℕ) (view : View) → StaysDead view.jobs (move_actor a i view).jobs
gone_moved (parent.Client c) i view = gone_same view.jobs
gone_moved (parent.Job j) i view = gone_phase view.jobs j (phase.At i)

-- ---- after an event

-- `StaysDead` holds between the view and the view after the event, if the event is possible
abbrev pub StaysDeadAfter : View → Option (View × Outcome) → Type 0
StaysDeadAfter view None = Unit {0}
StaysDeadAfter view (Some x) = StaysDead view.jobs x.0.jobs

leaves_if : (view : View) (b : Bool) (x : View × Outcome) → StaysDead view.jobs x.0.jobs → StaysDeadAfter view (if b then Some x else None)
leaves_if view true x gone = gone
leaves_if view false x gone = tt

gone_made : (a : Parent) (i : ℕ) (job : JobView) (view : View) → StaysDead view.jobs (made a i job view).jobs
gone_made a i job view =
    let moved = (move_actor a (i + 1) view).jobs in
    let fresh = map (drop_if_stale a i) moved in
    gone_then view.jobs moved (fresh ++ Some job ∷ []) (gone_moved a (i + 1) view) (gone_then moved fresh (fresh ++ Some job ∷ []) (gone_map (drop_if_stale a i) moved refl) (gone_push fresh (Some job)))

refused_leaves : (view : View) (may : Bool) (rejected refused : View × Outcome) → StaysDead view.jobs rejected.0.jobs → StaysDead view.jobs refused.0.jobs
    → let x : View × Outcome = if may then rejected else refused in StaysDead view.jobs x.0.jobs
refused_leaves view true rejected refused one two = one
refused_leaves view false rejected refused one two = two

answered_leaves : (plan : Plan) (view : View) (a : Parent) (i k : ℕ) (given : Offer) → StaysDead view.jobs (answered_in plan view a i k given).0.jobs
answered_leaves plan view a i k offer.Started = gone_made a i (new_live_job k a i (phase.At 0)) view
answered_leaves plan view a i k offer.Queued = gone_made a i (new_live_job k a i phase.Queued) view
answered_leaves plan view a i k offer.Refused =
    let p = pool_of plan k in
    refused_leaves view (pool_at plan p).may_reject (made a i (new_live_job k a i phase.Done) view, outcome.Rejected p (length view.jobs)) (record view { refusals = view.refusals + 1 }, outcome.Refused p)
    (gone_made a i (new_live_job k a i phase.Done) view) (gone_same view.jobs)

get_leaves : (view : View) (a : Parent) (i j : ℕ) (o : Option JobView) → StaysDeadAfter view (got_in view a i j o)
get_leaves view a i j None = tt
get_leaves view a i j (Some job) =
    let moved = move_actor a (i + 1) view in
    leaves_if view (is_done job.phase) (record moved { jobs = set moved.jobs j None }, outcome.Got j)
    (gone_then view.jobs moved.jobs (set moved.jobs j None) (gone_moved a (i + 1) view) (gone_set moved.jobs j None (λ gone. refl)))

get_child_leaves : (view : View) (a : Parent) (i : ℕ) (o : Option ℕ) → StaysDeadAfter view (got_child_in view a i o)
get_child_leaves view a i None = tt
get_child_leaves view a i (Some j) = get_leaves view a i j (live_job view.jobs j)

finish_leaves : (plan : Plan) (view : View) (j : ℕ) (o : Option JobView) → live_job view.jobs j ≡ o → StaysDeadAfter view (finished_job_in plan view j o)
finish_leaves plan view j None e = tt
finish_leaves plan view j (Some job) e =
    let here = finished_if_gettable view.jobs j job in
    let after = set view.jobs j here in
    gone_then view.jobs after (map (drop_if_orphan j) after) (gone_set view.jobs j here (λ gone. let f : Some job ≡ None = sym e ∙ gone in absurd cc)) (gone_map (drop_if_orphan j) after refl)

loop_leaves : (plan : Plan) (view : View) (c : ℕ) (o : Option ClientState) → StaysDeadAfter view (looped_in plan view c o)
loop_leaves plan view c None = tt
loop_leaves plan view c (Some client) = leaves_if view (client_at plan client.kind).repeat (move_actor (parent.Client c) 0 view, outcome.Looped) (gone_moved (parent.Client c) 0 view)

act_leaves : (plan : Plan) (view : View) (a : Parent) (i : ℕ) (o : Option Action) → StaysDeadAfter view (step_action_in plan view a i o)
act_leaves plan view (parent.Client c) i None = loop_leaves plan view c (slice_get view.clients c)
act_leaves plan view (parent.Job j) i None = finish_leaves plan view j (live_job view.jobs j) refl
act_leaves plan view a i (Some (Work u)) = gone_moved a (i + 1) view
act_leaves plan view a i (Some (Submit k)) = answered_leaves plan view a i k (answer (pool_in view (pool_of plan k)))
act_leaves plan view a i (Some (Get t)) = get_child_leaves view a i (live_child view.jobs a t)

actor_leaves : (plan : Plan) (view : View) (a : Parent) (o : Option Point) → StaysDeadAfter view (step_actor plan view a o)
actor_leaves plan view a None = tt
actor_leaves plan view a (Some at) = act_leaves plan view a at.position (slice_get at.body at.position)

take_leaves : (view : View) (p : ℕ) (o : Option (ℕ × PoolView)) → StaysDeadAfter view (take_head_in view p o)
take_leaves view p None = tt
take_leaves view p (Some x) = gone_phase view.jobs x.0 (phase.At 0)

retire_leaves : (view : View) (p : ℕ) (o : Option PoolView) → StaysDeadAfter view (retire_worker_in view p o)
retire_leaves view p None = tt
retire_leaves view p (Some pool) = gone_same view.jobs

pub step_leaves : (plan : Plan) (view : View) (e : Event) → StaysDeadAfter view (view_step plan view e)
step_leaves plan view (event.Client c) = actor_leaves plan view (parent.Client c) (point_in plan view (parent.Client c))
step_leaves plan view (event.Job j) = actor_leaves plan view (parent.Job j) (point_in plan view (parent.Job j))
step_leaves plan view (event.Take p) = take_leaves view p (taken (pool_in view p))
step_leaves plan view (event.Retire p) = retire_leaves view p (retired (pool_in view p))
