-- The rows of a list of events. Each row is an event that was performed, with the states before and after it.
use Rattle.std.specs.Prelude.{List, [], ◌∷◌, ◌++◌, Option, Some, None}
use Rattle.job_bodies.specs.Plan.{Plan}
use Rattle.pool_machine.specs.declared.event.Event.{Event}
use Rattle.pool_machine.specs.declared.event.Outcome.{Outcome}
use Rattle.pool_machine.specs.State.{State}
use Rattle.pool_machine.specs.Step.{step}
use Rattle.pool_machine.specs.Reach.{start, state_after}

-- an event that was performed: the states before and after it, and its outcome
pub record EventRow : Type 0 where
  pub event : Event
  pub before : State
  pub outcome : Outcome
  pub after : State

-- the row of event e in state s; `Some` has the state after the event and its outcome. No row if e is not possible
abbrev pub row_of : State → Event → Option (State × Outcome) → List EventRow
row_of s e None = []
row_of s e (Some x) = record { event = e; before = s; outcome = x.1; after = x.0 } ∷ []

-- the rows of the events from state s, before the first event that is not possible
abbrev pub rows_from : Plan → Option State → List Event → List EventRow
rows_from plan s [] = []
rows_from plan None (e ∷ events) = []
rows_from plan (Some s) (e ∷ events) = row_of s e (step plan s e) ++ rows_from plan (state_after (step plan s e)) events

-- the rows of the events from the start of the plan
abbrev pub event_rows : Plan → List Event → List EventRow
event_rows plan events = rows_from plan (Some (start plan)) events

-- the state after the last row, or s if there is none
abbrev pub last_state : State → List EventRow → State
last_state s [] = s
last_state s (row ∷ rows) = last_state row.after rows

-- the state after the events that come before the first event that is not possible
abbrev pub state_at_end : Plan → List Event → State
state_at_end plan events = last_state (start plan) (event_rows plan events)
