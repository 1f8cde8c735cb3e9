-- The states that lists of events reach from the initial state.
use Rattle.std.specs.Prelude.{◌≡◌, ℕ, List, [], ◌∷◌, map, replicate, Option, Some, None}
use Rattle.std.specs.List.{flat_map, enumerate_from}
use Rattle.job_bodies.specs.Plan.{Plan, Client}
use Rattle.pool_machine.specs.PoolState.{new_pool}
use Rattle.pool_machine.specs.declared.client_state.ClientState.{ClientState}
use Rattle.pool_machine.specs.declared.event.Event.{Event}
use Rattle.pool_machine.specs.declared.event.Outcome.{Outcome}
use Rattle.pool_machine.specs.State.{State, part_of}
use Rattle.pool_machine.specs.Step.{step}

-- the clients of a client kind in the initial state, given the index of the kind and the kind
abbrev pub new_clients : ℕ × Client → List ClientState
new_clients entry = replicate entry.1.count (record { kind = entry.0; position = 0 })

-- the initial state: it has no jobs and no refusals, core idle workers in each prestarted pool and none in other pools, and each client at
-- position 0
abbrev pub start : Plan → State
start plan = record {
  jobs = [];
  pools = map (λ pool. part_of (new_pool pool)) plan.pools;
  clients = flat_map new_clients (enumerate_from 0 plan.clients);
  refusals = 0;
}

abbrev pub state_after : Option (State × Outcome) → Option State
state_after None = None
state_after (Some x) = Some x.0

-- the state to which the events lead from state s; None if one of them is not possible
abbrev pub replay : Plan → Option State → List Event → Option State
replay plan s [] = s
replay plan None (e ∷ events) = None
replay plan (Some s) (e ∷ events) = replay plan (state_after (step plan s e)) events

abbrev pub outcome_of : Option (State × Outcome) → Option Outcome
outcome_of None = None
outcome_of (Some x) = Some x.1

-- the outcome of each event of the list, from state s; None for an event that is not possible, and for all events after it
abbrev pub outcomes : Plan → Option State → List Event → List (Option Outcome)
outcomes plan s [] = []
outcomes plan None (e ∷ events) = None ∷ outcomes plan None events
outcomes plan (Some s) (e ∷ events) = let x = step plan s e in outcome_of x ∷ outcomes plan (state_after x) events

-- these events lead from the initial state to state s
abbrev pub Reaches : Plan → List Event → State → Type 0
Reaches plan events s = replay plan (Some (start plan)) events ≡ Some s

-- some list of events leads from the initial state to state s
abbrev pub IsReached : Plan → State → Type 0
IsReached plan s = (events : List Event) × Reaches plan events s
