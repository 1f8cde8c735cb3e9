-- The step function: the state after an event, and the outcome of the event.
use Rattle.std.specs.Prelude.{ℕ, ◌+◌, List, [], ◌∷◌, ◌++◌, length, Option, Some, None, slice_get, slice_set, if◌then◌else◌}
use Rattle.std.specs.Option.{option_map}
use Rattle.job_bodies.specs.declared.action.Action.{Action}
use Rattle.job_bodies.specs.declared.action.Action.TheVariants.{Work, Submit, Get}
use Rattle.job_bodies.specs.Plan.{Plan, pool_at, class_at, client_at}
use Rattle.pool_machine.specs.declared.offer.Offer.{Offer}
use Rattle.pool_machine.specs.declared.offer.Offer.TheVariants as offer
use Rattle.pool_machine.specs.PoolState.{PoolView, answer, apply_answer, taken, finished, retired}
use Rattle.pool_machine.specs.declared.client_state.ClientState.{ClientState}
use Rattle.pool_machine.specs.declared.parent.Parent.{Parent}
use Rattle.pool_machine.specs.declared.parent.Parent.TheVariants as parent
use Rattle.pool_machine.specs.declared.event.Event.{Event}
use Rattle.pool_machine.specs.declared.event.Event.TheVariants.{Client, Job, Take, Retire}
use Rattle.pool_machine.specs.declared.event.Outcome.{Outcome}
use Rattle.pool_machine.specs.declared.event.Outcome.TheVariants.{Started, Queued, Refused, Rejected, Worked, Got, Looped, Finished, Took, Retired}
use Rattle.pool_machine.specs.State as state
use Rattle.pool_machine.specs.State.{Stage, CreatedJob, State, job_at, client_state, pool_of, part_of, pool_seen, child}

-- ---- the position of an actor

-- a body, and a position in it
pub record Point : Type 0 where
  pub body : List Action
  pub position : ℕ

abbrev pub point_of_client : Plan → ClientState → Point
point_of_client plan client = record { body = (client_at plan client.kind).body; position = client.position }

abbrev pub point_of_job : Plan → ℕ → Stage → Option Point
point_of_job plan k (state.Stage.At i) = Some (record { body = (class_at plan k).body; position = i })
point_of_job plan k _ = None

-- the body of an actor and its position in it; None if the actor does not exist, or is a job that is queued or done
abbrev pub point : Plan → State → Parent → Option Point
point plan s (parent.Client c) = option_map (point_of_client plan) (slice_get s.clients c)
point plan s (parent.Job j) = point_of_job plan (job_at s j).class (job_at s j).stage

-- ---- changes of a state

abbrev pub with_stage : ℕ → Stage → State → State
with_stage j stage s = record s { jobs = slice_set s.jobs j (record (job_at s j) { stage = stage }) }

-- the jobs after the actor moved to position i
abbrev pub moved_jobs : Parent → ℕ → State → List CreatedJob
moved_jobs (parent.Client c) i s = s.jobs
moved_jobs (parent.Job j) i s = slice_set s.jobs j (record (job_at s j) { stage = state.Stage.At i })

abbrev pub moved_clients : Parent → ℕ → State → List ClientState
moved_clients (parent.Client c) i s = slice_set s.clients c (record (client_state s c) { position = i })
moved_clients (parent.Job j) i s = s.clients

abbrev pub with_position : Parent → ℕ → State → State
with_position a i s = record s { jobs = moved_jobs a i s; clients = moved_clients a i s }

abbrev pub with_job : CreatedJob → State → State
with_job job s = record s { jobs = s.jobs ++ job ∷ [] }

-- the state with the queue and the idle workers of this pool; the number of its threads follows from the running jobs
abbrev pub with_pool : ℕ → PoolView → State → State
with_pool p pool s = record s { pools = slice_set s.pools p (part_of pool) }

-- ---- the events of an actor

abbrev pub new_job : ℕ → Parent → ℕ → Stage → CreatedJob
new_job k a i stage = record { class = k; parent = a; slot = i; stage = stage }

-- the state after actor a skipped its submit of a job of class k at position i. A new job is done at once, so that a get of the
-- submit returns. The pools are unchanged.
abbrev pub skipped : State → Parent → ℕ → ℕ → State
skipped s a i k = with_job (new_job k a i state.Stage.Done) (with_position a (i + 1) s)

-- the state and the outcome after actor a submitted a job of class k at position i, and the pool gave this answer. If the pool
-- may reject jobs and answers `Refused`, the submit is not refused but skipped.
abbrev pub answered : Plan → State → Parent → ℕ → ℕ → Offer → State × Outcome
answered plan s a i k offer.Started =
    (with_job (new_job k a i (state.Stage.At 0)) (with_position a (i + 1) s), Started (length s.jobs))
answered plan s a i k offer.Queued = (
  with_pool (pool_of plan k) (apply_answer (pool_seen plan s (pool_of plan k)) (length s.jobs) offer.Queued)
      (with_job (new_job k a i state.Stage.Queued) (with_position a (i + 1) s)),
  Queued (length s.jobs),
)
answered plan s a i k offer.Refused =
    if (pool_at plan (pool_of plan k)).may_reject then (skipped s a i k, Rejected (pool_of plan k) (length s.jobs))
    else (record s { refusals = s.refusals + 1 }, Refused (pool_of plan k))

abbrev pub submitted : Plan → State → Parent → ℕ → ℕ → State × Outcome
submitted plan s a i k = answered plan s a i k (answer (pool_seen plan s (pool_of plan k)))

-- the state and the outcome after actor a at position i got job j, which is at this stage; None if the job is not done
abbrev pub got : State → Parent → ℕ → ℕ → Stage → Option (State × Outcome)
got s a i j state.Stage.Done = Some (with_stage j state.Stage.Claimed (with_position a (i + 1) s), Got j)
got s a i j _ = None

abbrev pub got_child : State → Parent → ℕ → Option ℕ → Option (State × Outcome)
got_child s a i None = None
got_child s a i (Some j) = got s a i j (job_at s j).stage

-- the state after job j finished and its worker in pool p became idle
abbrev pub finished_job : Plan → State → ℕ → ℕ → State
finished_job plan s j p = with_pool p (finished (pool_seen plan s p)) (with_stage j state.Stage.Done s)

abbrev pub looped : Plan → State → ℕ → Option ClientState → Option (State × Outcome)
looped plan s c None = None
looped plan s c (Some client) = if (client_at plan client.kind).repeat then Some (with_position (parent.Client c) 0 s, Looped) else None

-- the step of an actor at the end of its body: a job finishes, and a client begins again if its kind repeats
abbrev pub step_at_end : Plan → State → Parent → Option (State × Outcome)
step_at_end plan s (parent.Client c) = looped plan s c (slice_get s.clients c)
step_at_end plan s (parent.Job j) = Some (finished_job plan s j (pool_of plan (job_at s j).class), Finished j)

-- the step of an actor at position i, given the action there; None stands for the end of the body
abbrev pub step_action : Plan → State → Parent → ℕ → Option Action → Option (State × Outcome)
step_action plan s a i None = step_at_end plan s a
step_action plan s a i (Some (Work u)) = Some (with_position a (i + 1) s, Worked u)
step_action plan s a i (Some (Submit k)) = Some (submitted plan s a i k)
step_action plan s a i (Some (Get t)) = got_child s a i (child s a t)

abbrev pub step_at_point : Plan → State → Parent → Option Point → Option (State × Outcome)
step_at_point plan s a None = None
step_at_point plan s a (Some at) = step_action plan s a at.position (slice_get at.body at.position)

-- ---- the events of a pool

-- the state and the outcome after an idle worker took the head of the queue of pool p, given the head and the pool afterwards
abbrev pub take_head : State → ℕ → Option (ℕ × PoolView) → Option (State × Outcome)
take_head s p None = None
take_head s p (Some x) = Some (with_pool p x.1 (with_stage x.0 (state.Stage.At 0) s), Took x.0)

abbrev pub retire_worker : State → ℕ → Option PoolView → Option (State × Outcome)
retire_worker s p None = None
retire_worker s p (Some pool) = Some (with_pool p pool s, Retired)

-- the state and the outcome after the event; None if the event is not possible
abbrev pub step : Plan → State → Event → Option (State × Outcome)
step plan s (Client c) = step_at_point plan s (parent.Client c) (point plan s (parent.Client c))
step plan s (Job j) = step_at_point plan s (parent.Job j) (point plan s (parent.Job j))
step plan s (Take p) = take_head s p (taken (pool_seen plan s p))
step plan s (Retire p) = retire_worker s p (retired (pool_seen plan s p))
