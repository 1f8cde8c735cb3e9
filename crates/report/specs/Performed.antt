-- What an event did, as the code computes it from live views. A live view has the live jobs, the pools and the clients of a
-- state.
use Rattle.std.specs.Prelude.{◌≡◌, ℕ, List, ◌++◌, map, Option, Some, None, slice_get, option_map, option_and_then}
use Rattle.job_bodies.specs.Plan.{Plan}
use Rattle.pool_machine.specs.declared.client_state.ClientState.{ClientState}
use Rattle.pool_machine.specs.declared.event.Event.{Event}
use Rattle.pool_machine.specs.declared.event.Event.TheVariants as event
use Rattle.pool_machine.specs.declared.event.Outcome.{Outcome}
use Rattle.pool_machine.specs.declared.event.Outcome.TheVariants.{Started, Queued, Refused, Rejected, Finished, Took, Retired}
use Rattle.pool_machine.specs.State.{State, pool_of}
use Rattle.pool_machine.specs.Step.{step}
use Rattle.pool_machine.specs.Reach.{IsReached}
use Rattle.interleaving.specs.declared.job_view.Phase.{Phase}
use Rattle.interleaving.specs.declared.job_view.Phase.TheVariants as phase
use Rattle.interleaving.specs.declared.job_view.JobView.{JobView}
use Rattle.interleaving.specs.LiveView.{View, live_view}
use Rattle.interleaving.specs.ViewStep.{live_job}
use Rattle.report.specs.declared.event_steps.Actor.{Actor}
use Rattle.report.specs.declared.event_steps.Actor.TheVariants as actor
use Rattle.report.specs.declared.event_steps.PoolCounts.{PoolCounts}
use Rattle.report.specs.declared.event_steps.EventStep.{EventStep}
use Rattle.report.specs.EventRows.{rows_from, last_state, event_rows, state_at_end}
use Rattle.report.specs.EventSteps.{step_of, pool_of_actor}

-- ---- in a live view

abbrev pub class_or : Option JobView → ℕ
class_or None = 0
class_or (Some job) = job.class

-- the class of a live job; 0 if the job is not live
abbrev pub class_seen : View → ℕ → ℕ
class_seen view j = class_or (live_job view.jobs j)

abbrev pub kind_or : Option ClientState → ℕ
kind_or None = 0
kind_or (Some client) = client.kind

-- the actor of the event; `kinds` are the clients at the start of the plan
abbrev pub actor_seen : List ClientState → View → Event → Actor
actor_seen kinds view (event.Client c) = actor.Client (kind_or (slice_get kinds c)) c
actor_seen kinds view (event.Job j) = actor.Job (class_seen view j) j
actor_seen kinds view (event.Take p) = actor.Pool p
actor_seen kinds view (event.Retire p) = actor.Pool p

abbrev pub position_in : Phase → ℕ
position_in (phase.At i) = i
position_in _ = 0

abbrev pub position_or : Option JobView → ℕ
position_or None = 0
position_or (Some job) = position_in job.phase

abbrev pub client_position_or : Option ClientState → ℕ
client_position_or None = 0
client_position_or (Some client) = client.position

abbrev pub position_seen : View → Event → ℕ
position_seen view (event.Client c) = client_position_or (slice_get view.clients c)
position_seen view (event.Job j) = position_or (live_job view.jobs j)
position_seen view _ = 0

abbrev pub changed_pool_seen : Plan → View → Actor → Outcome → Option ℕ
changed_pool_seen plan view actor (Started j) = Some (pool_of plan (class_seen view j))
changed_pool_seen plan view actor (Queued j) = Some (pool_of plan (class_seen view j))
changed_pool_seen plan view actor (Refused p) = Some p
changed_pool_seen plan view actor (Rejected p j) = Some p
changed_pool_seen plan view actor (Finished j) = pool_of_actor plan actor
changed_pool_seen plan view actor (Took j) = pool_of_actor plan actor
changed_pool_seen plan view actor Retired = pool_of_actor plan actor
changed_pool_seen plan view actor _ = None

abbrev pub taken_seen : View → Outcome → Option ℕ
taken_seen view (Took j) = Some (class_seen view j)
taken_seen view _ = None

abbrev pub pool_counts : View → ℕ → Option PoolCounts
pool_counts view p = option_map (λ pool. record { number = p; threads = pool.threads; idle = pool.idle }) (slice_get view.pools p)

abbrev pub counts_seen : View → Option ℕ → Option PoolCounts
counts_seen view pool = option_and_then (pool_counts view) pool

-- ---- the results

-- the code performs event e in state s: the result is what e did, or None if e is not possible, and `after` is the live view of
-- the state after it
abbrev pub Performs : Plan → State → Event → Option EventStep → View → Type 0
Performs plan s e None after = (step plan s e ≡ None) × (after ≡ live_view plan s)
Performs plan s e (Some what) after =
    (s' : State) × (outcome : Outcome) × (step plan s e ≡ Some (s', outcome)) × (after ≡ live_view plan s')
    × (what ≡ step_of plan (record { event = e; before = s; outcome = outcome; after = s' }))

-- `new` is `old`, followed by what the events do from state s; `after` is the live view of the state after them
pub record Appends (plan : Plan) (s : State) (events : List Event) (old new : List EventStep) (after : View) : Type 0 where
  pub steps : new ≡ old ++ map (step_of plan) (rows_from plan (Some s) events)
  pub seen : after ≡ live_view plan (last_state s (rows_from plan (Some s) events))
  pub reached : IsReached plan (last_state s (rows_from plan (Some s) events))

-- `steps` are what the events do from the start of the plan; `after` is the live view of the state after them
pub record PerformsAll (plan : Plan) (events : List Event) (after : View) (steps : List EventStep) : Type 0 where
  pub each : steps ≡ map (step_of plan) (event_rows plan events)
  pub seen : after ≡ live_view plan (state_at_end plan events)
  pub reached : IsReached plan (state_at_end plan events)
