-- Actors that skip submits of their bodies and change the order of their gets. An actor skips a submit together with its get,
-- as with an `if` around both. It can get its jobs of one class in another order than its body says. An actor decides anew each
-- time which submits to skip and in which order to get its jobs.
use Rattle.std.specs.Prelude.{◌≡◌, ◌≤◌, ◌<◌, ◌+◌, ◌*◌, ◌||◌, ◌&&◌, ◌==◌, if◌then◌else◌, ℕ, Bool, true, false, IsTrue, IsFalse, List, [], ◌∷◌, length, Option, Some, None, slice_get, count_by, not}
use Rattle.std.specs.List.{list_all}
use Rattle.job_bodies.specs.declared.action.Action.{Action}
use Rattle.job_bodies.specs.declared.action.Action.TheVariants.{Get}
use Rattle.job_bodies.specs.Plan.{Pool, Plan, pool_at}
use Rattle.job_bodies.specs.WellFormed.{IsWellFormed}
use Rattle.weights.specs.declared.get_return.GetReturn.{GetReturn}
use Rattle.weights.specs.Row.{AllHold}
use Rattle.weights.specs.Vector.{Vector, queued_weight, done_weight}
use Rattle.weights.specs.Rows.{rows}
use Rattle.weights.specs.Ranks.{Ranks, rank_rows}
use Rattle.pool_machine.specs.declared.event.Event.{Event}
use Rattle.pool_machine.specs.declared.event.Event.TheVariants as event
use Rattle.pool_machine.specs.declared.parent.Parent.{Parent}
use Rattle.pool_machine.specs.declared.parent.Parent.TheVariants as parent
use Rattle.pool_machine.specs.State.{Stage, State, job_at, pool_of, is_unfinished, child}
use Rattle.pool_machine.specs.Step.{point, with_stage, with_position, skipped}
use Rattle.pool_machine.specs.Reach.{start}
use Rattle.pool_machine.specs.Safe.{is_of_job_or_pool}
use Rattle.soundness.specs.Drain.{todo, is_of_no_client}
use Rattle.soundness.specs.Execute.{JavaState, JavaEvent, Submission, is_calling, offer_fails, submission, java_step, without_calls}
use Rattle.soundness.specs.JavaSafe.{IsJavaSafe, JavaCanProgress, IsJavaQuiescent}
use Rattle.soundness.specs.Exchange.{after_exchange, can_exchange}

-- a choice. `Acts` performs an event. `Skips` makes the actor of the event skip its current submit. `Misses` makes the offer of
-- the event's actor fail at a queue of capacity 0, although a thread may be idle. `Exchanges` exchanges the jobs that an actor
-- submitted at two positions. In `Leaves` and `Spares`, Java looks at the pool: it starts no thread in `Leaves`, and one in
-- `Spares`.
pub data Choice : Type 0 where
  Acts : Event → Choice
  Skips : Event → Choice
  Misses : Event → Choice
  Exchanges : Parent → ℕ → ℕ → Choice
  Leaves : ℕ → Choice
  Spares : ℕ → Choice

-- the state after an actor skips a submit: the actor is after the submit, a get of the submit finds a new job that is done, and
-- the pools are unchanged
abbrev pub after_skip : State → Submission → State
after_skip s x = skipped s x.actor x.position x.class

-- a call of the actor to the submit's pool is in progress, so the submit has begun
abbrev pub has_begun : Plan → JavaState → Submission → Bool
has_begun plan s x = is_calling s.offering x.actor (pool_of plan x.class) || is_calling s.requesting x.actor (pool_of plan x.class)

-- the state after a skip of the submit, or None if there is no submit or it has begun
abbrev pub skip_submit : Plan → JavaState → Option Submission → Option JavaState
skip_submit plan s None = None
skip_submit plan s (Some x) = if has_begun plan s x then None else Some (record s { machine = after_skip s.machine x })

-- whether the pool has a SynchronousQueue, a bounded queue of capacity 0
abbrev pub has_no_queue : Pool → Bool
has_no_queue pool = not pool.unbounded && pool.queue == 0

-- the state after the offer of the submit fails at a queue of capacity 0. A thread may be idle, but it has not returned to the
-- queue yet. None if there is no submit, if its next step is no offer, or if the queue has a greater capacity or is unbounded.
abbrev pub miss_thread : Plan → JavaState → Option Submission → Option JavaState
miss_thread plan s None = None
miss_thread plan s (Some x) =
    if is_calling s.requesting x.actor (pool_of plan x.class) then None
    else (if is_calling s.offering x.actor (pool_of plan x.class) && has_no_queue (pool_at plan (pool_of plan x.class)) then Some (offer_fails plan s x.actor x.class)
    else None)

-- the state after an exchange of the actor's jobs at positions t and u, or None if these jobs are not alike
abbrev pub exchange_jobs : JavaState → Parent → ℕ → ℕ → Option JavaState
exchange_jobs s a t u = if can_exchange s.machine a t u then Some (record s { machine = after_exchange a t u s.machine }) else None

-- the state after the choice, or None if the choice is not possible
abbrev pub choice_step : Plan → JavaState → Choice → Option JavaState
choice_step plan s (Acts e) = java_step plan s (JavaEvent.Acts e)
choice_step plan s (Skips e) = skip_submit plan s (submission plan s.machine e)
choice_step plan s (Misses e) = miss_thread plan s (submission plan s.machine e)
choice_step plan s (Exchanges a t u) = exchange_jobs s a t u
choice_step plan s (Leaves p) = java_step plan s (JavaEvent.Leaves p)
choice_step plan s (Spares p) = java_step plan s (JavaEvent.Spares p)

-- the state after all choices in order, or None if one of them is not possible
abbrev pub choices_replay : Plan → Option JavaState → List Choice → Option JavaState
choices_replay plan s [] = s
choices_replay plan None (x ∷ xs) = None
choices_replay plan (Some s) (x ∷ xs) = choices_replay plan (choice_step plan s x) xs

abbrev pub ChoicesReach : Plan → List Choice → JavaState → Type 0
ChoicesReach plan choices s = choices_replay plan (Some (without_calls (start plan))) choices ≡ Some s

-- every state that choices reach is safe
abbrev pub SkippingIsSafe : Plan → Type 0
SkippingIsSafe plan = (choices : List Choice) (s : JavaState) → ChoicesReach plan choices s → IsJavaSafe plan s

-- in every state that choices reach, an event of a job, a take or a look at a pool is possible if a job is unfinished; no skip
-- and no exchange is needed for it
abbrev pub SkippingMakesProgress : Plan → Type 0
SkippingMakesProgress plan = (choices : List Choice) (s : JavaState) → ChoicesReach plan choices s → (j : ℕ) → IsTrue (is_unfinished (job_at s.machine j).stage) → JavaCanProgress plan s

-- ---- draining

-- the choice is a job event, a take, or a skip or a missed offer by a job; an exchange and a look at a pool are not counted
abbrev pub is_of_jobs : Choice → Bool
is_of_jobs (Acts e) = is_of_job_or_pool e
is_of_jobs (Skips e) = is_of_job_or_pool e
is_of_jobs (Misses e) = is_of_job_or_pool e
is_of_jobs (Exchanges a t u) = false
is_of_jobs (Leaves p) = false
is_of_jobs (Spares p) = false

-- the choice is not an event, a skip or a missed offer of a client. An exchange of a client's jobs does not count as an action
-- of the client.
abbrev pub no_client_acts : Choice → Bool
no_client_acts (Acts e) = is_of_no_client e
no_client_acts (Skips e) = is_of_no_client e
no_client_acts (Misses e) = is_of_no_client e
no_client_acts _ = true

-- The choices `before` reach the state s, and the given choices lead from s to the state s'. No client acts in the given
-- choices.
pub record ChoicesLeadTo (plan : Plan) (s : JavaState) (choices : List Choice) (s' : JavaState) : Type 0 where
  pub before : List Choice
  pub reached : ChoicesReach plan before s
  pub of_no_client : IsTrue (list_all no_client_acts choices)
  pub replayed : choices_replay plan (Some s) choices ≡ Some s'

-- Let no client act after a state that choices reach. Then the number of the job events, takes, skips by jobs and missed offers
-- by jobs that follow is bounded: it is at most three times the remaining work of that state. When no job event, no take and no
-- look at a pool is possible any longer, no job is unfinished. In between, threads may end, as far as the pools allow it, and
-- jobs may be exchanged.
pub record SkippingDrains (plan : Plan) (ranks : Ranks) : Type 0 where
  pub bounded : (s s' : JavaState) (choices : List Choice) → ChoicesLeadTo plan s choices s' → count_by is_of_jobs choices ≤ 3 * todo plan ranks s.machine
  pub drained : (s s' : JavaState) (choices : List Choice) → ChoicesLeadTo plan s choices s' → IsJavaQuiescent plan s' → (j : ℕ) → IsFalse (is_unfinished (job_at s'.machine j).stage)

-- ---- laws

-- Let the rows of a vector and of the ranks hold. Then a done job of a class weighs at most as much as a queued job of that
-- class.
abbrev pub DoneWithinQueued : Type 0
DoneWithinQueued = (get_return : GetReturn) (plan : Plan) (v : Vector) (ranks : Ranks) (k : ℕ) → IsWellFormed plan → AllHold (rank_rows plan ranks) → AllHold (rows get_return plan v) → k < length plan.classes → done_weight plan v k ≤ queued_weight v k

-- the event in which this actor acts
abbrev pub event_of_actor : Parent → Event
event_of_actor (parent.Client c) = event.Client c
event_of_actor (parent.Job j) = event.Job j

-- An actor at a get of its submit at position t can get its job of position u instead. The actor exchanges the two jobs and
-- then performs the get. The job of position u must be done, and the actor's jobs of the two positions must be alike.
abbrev pub AlikeJobsAreGotInAnyOrder : Type 0
AlikeJobsAreGotInAnyOrder = (plan : Plan) (s : JavaState) (a : Parent) (body : List Action) (i t u j : ℕ) → point plan s.machine a ≡ Some (record { body = body; position = i }) → slice_get body i ≡ Some (Get t)
    → IsTrue (can_exchange s.machine a t u) → child s.machine a u ≡ Some j → (job_at s.machine j).stage ≡ Stage.Done
    → choices_replay plan (Some s) (Exchanges a t u ∷ Acts (event_of_actor a) ∷ []) ≡ Some (record s { machine = with_stage j Stage.Claimed (with_position a (i + 1) (after_exchange a t u s.machine)) })
