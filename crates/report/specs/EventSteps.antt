-- What an event did: its actor, action and outcome, its pool, and the class of the job that a thread took. Its pool is the pool
-- that it changed, or that refused or rejected a job.
use Rattle.std.specs.Prelude.{ℕ, Option, Some, None, slice_get, option_map, option_and_then}
use Rattle.job_bodies.specs.Plan.{Plan}
use Rattle.pool_machine.specs.declared.event.Event.{Event}
use Rattle.pool_machine.specs.declared.event.Event.TheVariants as event
use Rattle.pool_machine.specs.declared.event.Outcome.{Outcome}
use Rattle.pool_machine.specs.declared.event.Outcome.TheVariants.{Started, Queued, Refused, Rejected, Worked, Got, Finished, Took, Retired}
use Rattle.pool_machine.specs.State.{Stage, State, job_at, pool_part, pool_of, client_state, threads}
use Rattle.pool_machine.specs.Reach.{start}
use Rattle.report.specs.declared.event_steps.Actor.{Actor}
use Rattle.report.specs.declared.event_steps.Actor.TheVariants.{Client, Job, Pool}
use Rattle.report.specs.declared.event_steps.PoolCounts.{PoolCounts}
use Rattle.report.specs.declared.event_steps.EventStep.{EventStep}
use Rattle.report.specs.EventRows.{EventRow}

-- ---- the actor

-- the index of the client kind of the client with this number
abbrev pub kind_of : Plan → ℕ → ℕ
kind_of plan c = (client_state (start plan) c).kind

abbrev pub actor_of : Plan → State → Event → Actor
actor_of plan s (event.Client c) = Client (kind_of plan c) c
actor_of plan s (event.Job j) = Job (job_at s j).class j
actor_of plan s (event.Take p) = Pool p
actor_of plan s (event.Retire p) = Pool p

-- the position of the job in its body; 0 if it does not run
abbrev pub position_at : Stage → ℕ
position_at (Stage.At i) = i
position_at _ = 0

-- the position of the actor in its body; 0 for a pool
abbrev pub position_of : State → Event → ℕ
position_of s (event.Client c) = (client_state s c).position
position_of s (event.Job j) = position_at (job_at s j).stage
position_of s _ = 0

-- the actor's position i, if the outcome is that of an action of its body; None at the end of a body, and for an event of a pool
abbrev pub action_of : Outcome → ℕ → Option ℕ
action_of (Started j) i = Some i
action_of (Queued j) i = Some i
action_of (Refused p) i = Some i
action_of (Rejected p j) i = Some i
action_of (Worked u) i = Some i
action_of (Got j) i = Some i
action_of _ i = None

-- ---- the pool

-- the pool of the actor; None for a client
abbrev pub pool_of_actor : Plan → Actor → Option ℕ
pool_of_actor plan (Client kind c) = None
pool_of_actor plan (Job class j) = Some (pool_of plan class)
pool_of_actor plan (Pool p) = Some p

-- the pool that the event changed, or that refused or rejected a job; None if there is none. `after` is the state after the event
abbrev pub changed_pool : Plan → State → Actor → Outcome → Option ℕ
changed_pool plan after actor (Started j) = Some (pool_of plan (job_at after j).class)
changed_pool plan after actor (Queued j) = Some (pool_of plan (job_at after j).class)
changed_pool plan after actor (Refused p) = Some p
changed_pool plan after actor (Rejected p j) = Some p
changed_pool plan after actor (Finished j) = pool_of_actor plan actor
changed_pool plan after actor (Took j) = pool_of_actor plan actor
changed_pool plan after actor Retired = pool_of_actor plan actor
changed_pool plan after actor _ = None

-- the number of threads and the number of idle threads of pool p in state s; None if the plan has no such pool
abbrev pub counts_of : Plan → State → ℕ → Option PoolCounts
counts_of plan s p =
    option_map (λ pool. record { number = p; threads = threads plan s p; idle = (pool_part s p).idle }) (slice_get plan.pools p)

-- the class of the job that a thread took; None if no thread took a job. `after` is the state after the event
abbrev pub taken_class : State → Outcome → Option ℕ
taken_class after (Took j) = Some (job_at after j).class
taken_class after _ = None

abbrev pub step_of : Plan → EventRow → EventStep
step_of plan row = record {
  actor = actor_of plan row.before row.event;
  action = action_of row.outcome (position_of row.before row.event);
  outcome = row.outcome;
  pool = option_and_then (counts_of plan row.after) (changed_pool plan row.after (actor_of plan row.before row.event) row.outcome);
  taken = taken_class row.after row.outcome;
}
