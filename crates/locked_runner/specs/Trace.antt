-- The machine of a plan, with the outcome of its last event.
use Rattle.std.specs.Prelude.{Option, Some, None}
use Rattle.job_bodies.specs.Plan.{Plan}
use Rattle.pool_machine.specs.declared.event.Event.{Event}
use Rattle.pool_machine.specs.declared.event.Outcome.{Outcome}
use Rattle.pool_machine.specs.State.{State}
use Rattle.pool_machine.specs.Step.{step}
use Rattle.pool_machine.specs.Reach as reach

-- a state, and the outcome of the event that led to it
pub record StateWithOutcome : Type 0 where
  pub state : State
  pub outcome : Option Outcome

-- the first state, which has no outcome
abbrev pub start : Plan → StateWithOutcome
start plan = record { state = reach.start plan; outcome = None }

abbrev pub with_outcome : Option (State × Outcome) → Option StateWithOutcome
with_outcome None = None
with_outcome (Some x) = Some (record { state = x.0; outcome = Some x.1 })

-- the state after the event, or None if the event is not possible
abbrev pub next : Plan → StateWithOutcome → Event → Option StateWithOutcome
next plan t event = with_outcome (step plan t.state event)
