-- The transition function on live views. From the live view of a reachable state, it gives the same outcome as the machine, and
-- the live view of the state after the event: jobs that are not live do not influence later events.
use Rattle.std.specs.Prelude.{ℕ, ◌+◌, ◌&&◌, ◌==◌, not, Bool, true, false, List, [], ◌∷◌, ◌++◌, length, map, Option, Some, None, slice_get, slice_set, slice_index_or, if◌then◌else◌}
use Rattle.std.specs.Option.{option_map}
use Rattle.support.specs.Places.{places_where, last_of}
use Rattle.job_bodies.specs.declared.action.Action.{Action}
use Rattle.job_bodies.specs.declared.action.Action.TheVariants.{Work, Submit, Get}
use Rattle.job_bodies.specs.Plan.{Plan, pool_at, class_at, client_at}
use Rattle.pool_machine.specs.declared.offer.Offer.{Offer}
use Rattle.pool_machine.specs.declared.offer.Offer.TheVariants as offer
use Rattle.pool_machine.specs.PoolState.{PoolView, answer, apply_answer, taken, finished, retired}
use Rattle.pool_machine.specs.declared.client_state.ClientState.{ClientState}
use Rattle.pool_machine.specs.declared.parent.Parent.{Parent}
use Rattle.pool_machine.specs.declared.parent.Parent.TheVariants as parent
use Rattle.interleaving.specs.declared.job_view.Phase.{Phase}
use Rattle.interleaving.specs.declared.job_view.Phase.TheVariants as phase
use Rattle.interleaving.specs.declared.job_view.JobView.{JobView}
use Rattle.pool_machine.specs.declared.event.Event.{Event}
use Rattle.pool_machine.specs.declared.event.Event.TheVariants.{Client, Job, Take, Retire}
use Rattle.pool_machine.specs.declared.event.Outcome.{Outcome}
use Rattle.pool_machine.specs.declared.event.Outcome.TheVariants.{Started, Queued, Refused, Rejected, Worked, Got, Looped, Finished, Took, Retired}
use Rattle.pool_machine.specs.State.{same_parent, pool_of}
use Rattle.pool_machine.specs.Step.{Point, point_of_client}
use Rattle.interleaving.specs.LiveView.{View, is_number}

-- ---- the jobs of a view

-- the live job with this number, or None if that job is not live
abbrev pub live_job : List (Option JobView) → ℕ → Option JobView
live_job jobs j = slice_index_or jobs j None

abbrev pub is_live_child : Parent → ℕ → Option JobView → Bool
is_live_child a t None = false
is_live_child a t (Some job) = same_parent a job.parent && t == job.slot

-- the number of the latest live job that the actor created by the submit at position t
abbrev pub live_child : List (Option JobView) → Parent → ℕ → Option ℕ
live_child jobs a t = last_of (places_where (is_live_child a t) jobs)

abbrev pub is_done : Phase → Bool
is_done phase.Done = true
is_done _ = false

-- the job is live, and it is queued or running
abbrev pub is_unfinished_job : Option JobView → Bool
is_unfinished_job None = false
is_unfinished_job (Some job) = not (is_done job.phase)

-- the actor may still get jobs that it created: it is a client or an unfinished job
abbrev pub may_get_in : List (Option JobView) → Parent → Bool
may_get_in jobs (parent.Client c) = true
may_get_in jobs (parent.Job j) = is_unfinished_job (live_job jobs j)

-- the job with its phase replaced
abbrev pub in_phase : Phase → Option JobView → Option JobView
in_phase phase None = None
in_phase phase (Some job) = Some (record job { phase = phase })

abbrev pub with_phase : ℕ → Phase → List (Option JobView) → List (Option JobView)
with_phase j phase jobs = slice_set jobs j (in_phase phase (live_job jobs j))

-- the job, or None if it is stale: it is done, and the actor created it by the submit at position t. A stale job stops being
-- live when the same submit creates another job.
abbrev pub drop_if_stale : Parent → ℕ → Option JobView → Option JobView
drop_if_stale a t None = None
drop_if_stale a t (Some job) = if is_live_child a t (Some job) && is_done job.phase then None else Some job

-- the job, or None if it is an orphan: it is done, and job j created it. An orphan stops being live when job j finishes,
-- because no actor can get it then.
abbrev pub drop_if_orphan : ℕ → Option JobView → Option JobView
drop_if_orphan j None = None
drop_if_orphan j (Some job) = if same_parent (parent.Job j) job.parent && is_done job.phase then None else Some job

-- the job after it finished: it is done, or None if no get can return it. A get can return it if it is the latest job of its
-- submit and its parent may still get jobs.
abbrev pub finished_if_gettable : List (Option JobView) → ℕ → JobView → Option JobView
finished_if_gettable jobs j job =
    if may_get_in jobs job.parent && is_number (live_child jobs job.parent job.slot) j then Some (record job { phase = phase.Done }) else None

-- ---- the position of an actor

abbrev pub point_of_phase : Plan → ℕ → Phase → Option Point
point_of_phase plan k (phase.At i) = Some (record { body = (class_at plan k).body; position = i })
point_of_phase plan k _ = None

abbrev pub point_of_live_job : Plan → Option JobView → Option Point
point_of_live_job plan None = None
point_of_live_job plan (Some job) = point_of_phase plan job.class job.phase

abbrev pub point_in : Plan → View → Parent → Option Point
point_in plan view (parent.Client c) = option_map (point_of_client plan) (slice_get view.clients c)
point_in plan view (parent.Job j) = point_of_live_job plan (live_job view.jobs j)

-- ---- changes of a view

abbrev pub no_pool_view : PoolView
no_pool_view = record { core = 0; max = 0; capacity = 0; unbounded = false; core_timeout = false; threads = 0; idle = 0; queue = [] }

abbrev pub pool_in : View → ℕ → PoolView
pool_in view p = slice_index_or view.pools p no_pool_view

abbrev pub client_in : View → ℕ → ClientState
client_in view c = slice_index_or view.clients c (record { kind = 0; position = 0 })

abbrev pub moved_live_jobs : Parent → ℕ → View → List (Option JobView)
moved_live_jobs (parent.Client c) i view = view.jobs
moved_live_jobs (parent.Job j) i view = with_phase j (phase.At i) view.jobs

abbrev pub moved_live_clients : Parent → ℕ → View → List ClientState
moved_live_clients (parent.Client c) i view = slice_set view.clients c (record (client_in view c) { position = i })
moved_live_clients (parent.Job j) i view = view.clients

abbrev pub move_actor : Parent → ℕ → View → View
move_actor a i view = record view { jobs = moved_live_jobs a i view; clients = moved_live_clients a i view }

abbrev pub with_pool_in : ℕ → PoolView → View → View
with_pool_in p pool view = record view { pools = slice_set view.pools p pool }

-- ---- the events

abbrev pub new_live_job : ℕ → Parent → ℕ → Phase → JobView
new_live_job k a i phase = record { class = k; parent = a; slot = i; phase = phase }

-- the view after the actor, at position i, created this job
abbrev pub made : Parent → ℕ → JobView → View → View
made a i job view =
    let moved = move_actor a (i + 1) view in
    record moved { jobs = map (drop_if_stale a i) moved.jobs ++ Some job ∷ [] }

-- the view and the outcome after actor a at position i submitted a job of class k, and the pool gave this answer. If the pool
-- may reject jobs and answers `Refused`, the submit is not refused. Instead, the new job is done at once.
abbrev pub answered_in : Plan → View → Parent → ℕ → ℕ → Offer → View × Outcome
answered_in plan view a i k offer.Started = (
  with_pool_in (pool_of plan k) (apply_answer (pool_in view (pool_of plan k)) (length view.jobs) offer.Started)
      (made a i (new_live_job k a i (phase.At 0)) view),
  Started (length view.jobs),
)
answered_in plan view a i k offer.Queued = (
  with_pool_in (pool_of plan k) (apply_answer (pool_in view (pool_of plan k)) (length view.jobs) offer.Queued)
      (made a i (new_live_job k a i phase.Queued) view),
  Queued (length view.jobs),
)
answered_in plan view a i k offer.Refused =
    if (pool_at plan (pool_of plan k)).may_reject then (made a i (new_live_job k a i phase.Done) view, Rejected (pool_of plan k) (length view.jobs))
    else (record view { refusals = view.refusals + 1 }, Refused (pool_of plan k))

abbrev pub submitted_in : Plan → View → Parent → ℕ → ℕ → View × Outcome
submitted_in plan view a i k = answered_in plan view a i k (answer (pool_in view (pool_of plan k)))

-- the view and outcome after an actor at position i gets the live job j; None if the job is not live or not done
abbrev pub got_in : View → Parent → ℕ → ℕ → Option JobView → Option (View × Outcome)
got_in view a i j None = None
got_in view a i j (Some job) =
    if is_done job.phase then (let moved = move_actor a (i + 1) view in Some (record moved { jobs = slice_set moved.jobs j None }, Got j)) else None

abbrev pub got_child_in : View → Parent → ℕ → Option ℕ → Option (View × Outcome)
got_child_in view a i None = None
got_child_in view a i (Some j) = got_in view a i j (live_job view.jobs j)

abbrev pub finished_job_in : Plan → View → ℕ → Option JobView → Option (View × Outcome)
finished_job_in plan view j None = None
finished_job_in plan view j (Some job) = Some (
  with_pool_in (pool_of plan job.class) (finished (pool_in view (pool_of plan job.class)))
      (record view { jobs = map (drop_if_orphan j) (slice_set view.jobs j (finished_if_gettable view.jobs j job)) }),
  Finished j,
)

abbrev pub looped_in : Plan → View → ℕ → Option ClientState → Option (View × Outcome)
looped_in plan view c None = None
looped_in plan view c (Some client) = if (client_at plan client.kind).repeat then Some (move_actor (parent.Client c) 0 view, Looped) else None

abbrev pub step_at_end_in : Plan → View → Parent → Option (View × Outcome)
step_at_end_in plan view (parent.Client c) = looped_in plan view c (slice_get view.clients c)
step_at_end_in plan view (parent.Job j) = finished_job_in plan view j (live_job view.jobs j)

abbrev pub step_action_in : Plan → View → Parent → ℕ → Option Action → Option (View × Outcome)
step_action_in plan view a i None = step_at_end_in plan view a
step_action_in plan view a i (Some (Work u)) = Some (move_actor a (i + 1) view, Worked u)
step_action_in plan view a i (Some (Submit k)) = Some (submitted_in plan view a i k)
step_action_in plan view a i (Some (Get t)) = got_child_in view a i (live_child view.jobs a t)

abbrev pub step_actor : Plan → View → Parent → Option Point → Option (View × Outcome)
step_actor plan view a None = None
step_actor plan view a (Some at) = step_action_in plan view a at.position (slice_get at.body at.position)

abbrev pub take_head_in : View → ℕ → Option (ℕ × PoolView) → Option (View × Outcome)
take_head_in view p None = None
take_head_in view p (Some x) = Some (record view { jobs = with_phase x.0 (phase.At 0) view.jobs; pools = slice_set view.pools p x.1 }, Took x.0)

abbrev pub retire_worker_in : View → ℕ → Option PoolView → Option (View × Outcome)
retire_worker_in view p None = None
retire_worker_in view p (Some pool) = Some (with_pool_in p pool view, Retired)

-- the view and the outcome after the event, or None if the event is not possible
abbrev pub view_step : Plan → View → Event → Option (View × Outcome)
view_step plan view (Client c) = step_actor plan view (parent.Client c) (point_in plan view (parent.Client c))
view_step plan view (Job j) = step_actor plan view (parent.Job j) (point_in plan view (parent.Job j))
view_step plan view (Take p) = take_head_in view p (taken (pool_in view p))
view_step plan view (Retire p) = retire_worker_in view p (retired (pool_in view p))
