-- The laws that relate live views to the machine of a plan.
use Rattle.std.specs.Prelude.{◌≡◌, ◌<◌, ℕ, [], List, length, map, count_by, Some, None}
use Rattle.std.specs.List.{flat_map, enumerate_from}
use Rattle.std.specs.Option.{option_map}
use Rattle.job_bodies.specs.Plan.{Plan}
use Rattle.job_bodies.specs.WellFormed.{IsWellFormed}
use Rattle.pool_machine.specs.PoolState.{new_pool}
use Rattle.pool_machine.specs.declared.event.Event.{Event}
use Rattle.pool_machine.specs.declared.event.Outcome.{Outcome}
use Rattle.pool_machine.specs.State.{State, is_unfinished}
use Rattle.pool_machine.specs.Step.{step}
use Rattle.pool_machine.specs.Reach.{start, new_clients, IsReached}
use Rattle.pool_machine.specs.Waiting.{is_waiting_set}
use Rattle.interleaving.specs.LiveView.{View, live_view}
use Rattle.interleaving.specs.ViewStep.{live_job, is_unfinished_job, view_step}
use Rattle.interleaving.specs.Waiting.{is_waiting_set_in}

-- the initial view: no jobs and no refusals, core idle workers in each prestarted pool and no threads in the others, and
-- each client at the start of its body
abbrev pub new_view : Plan → View
new_view plan = record {
  jobs = [];
  pools = map new_pool plan.pools;
  clients = flat_map new_clients (enumerate_from 0 plan.clients);
  refusals = 0;
}

-- the live view of the initial state is the initial view
abbrev pub StartIsSeen : Type 0
StartIsSeen = (plan : Plan) → live_view plan (start plan) ≡ new_view plan

-- the live view of a state after an event, and the outcome of the event
abbrev pub seen_after : Plan → State × Outcome → View × Outcome
seen_after plan x = (live_view plan x.0, x.1)

-- in every reachable state, an event is possible in the live view exactly when it is possible in the state; both give the same outcome, and
-- the view after the event is the live view of the state after it
abbrev pub StepsCommute : Type 0
StepsCommute = (plan : Plan) (s : State) (event : Event) → IsWellFormed plan → IsReached plan s → option_map (seen_after plan) (step plan s event) ≡ view_step plan (live_view plan s) event

-- the live view of a state has as many unfinished jobs as the state
abbrev pub UnfinishedJobsAreLive : Type 0
UnfinishedJobsAreLive = (plan : Plan) (s : State) → count_by is_unfinished_job (live_view plan s).jobs ≡ count_by (λ job. is_unfinished job.stage) s.jobs

-- in every reachable state, a set of numbers is a waiting set exactly when it is one in the live view
abbrev pub WaitingSetsAreSeen : Type 0
WaitingSetsAreSeen = (plan : Plan) (s : State) (members : List ℕ) → IsWellFormed plan → IsReached plan s → is_waiting_set plan s members ≡ is_waiting_set_in plan (live_view plan s) members

-- a job that is not live in a reachable state is not live after a further event
abbrev pub DeadJobsStayDead : Type 0
DeadJobsStayDead = (plan : Plan) (s s' : State) (event : Event) (outcome : Outcome) (j : ℕ) → IsWellFormed plan → IsReached plan s → step plan s event ≡ Some (s', outcome) → j < length s.jobs
    → live_job (live_view plan s).jobs j ≡ None → live_job (live_view plan s').jobs j ≡ None
