-- The work list of one round: the state of each pool, and the operations by which workers claim pools and give them back.
use Rattle.std.specs.Prelude.{ℕ, Bool, true, false, List, map, Option, Some, None, slice_get, slice_set}
use Rattle.held_machines.specs.Replay.{Leads}
use Rattle.cert_search.specs.declared.board.PoolStatus.{PoolStatus}
use Rattle.cert_search.specs.declared.board.PoolStatus.TheVariants.{Free, Claimed, Done}
use Rattle.cert_search.specs.declared.board.BoardEvent.{BoardEvent}
use Rattle.cert_search.specs.declared.board.BoardEvent.TheVariants.{Claim, Return}

-- the state of a pool at the start of a round: done if it has a rank, otherwise free
abbrev pub initial_status : Bool → PoolStatus
initial_status true = Done
initial_status false = Free

abbrev pub initial_statuses : List Bool → List PoolStatus
initial_statuses has_rank = map initial_status has_rank

-- the states after pool p was claimed, or None if it was not free
abbrev pub claimed : List PoolStatus → ℕ → Option PoolStatus → Option (List PoolStatus)
claimed statuses p (Some Free) = Some (slice_set statuses p Claimed)
claimed statuses p _ = None

-- the states after pool p was given back, or None if no worker had claimed it
abbrev pub returned : List PoolStatus → ℕ → Option PoolStatus → Option (List PoolStatus)
returned statuses p (Some Claimed) = Some (slice_set statuses p Done)
returned statuses p _ = None

-- the states after the event, or None if the event is not possible
abbrev pub next_statuses : List PoolStatus → BoardEvent → Option (List PoolStatus)
next_statuses statuses (Claim p) = claimed statuses p (slice_get statuses p)
next_statuses statuses (Return p) = returned statuses p (slice_get statuses p)

-- this history of events leads from the start of a round to these states
abbrev pub LeadsTo : List Bool → List BoardEvent → List PoolStatus → Type 0
LeadsTo has_rank history statuses = Leads next_statuses (initial_statuses has_rank) history statuses

-- the pool is free: no worker has claimed it
abbrev pub is_free : PoolStatus → Bool
is_free Free = true
is_free _ = false

-- the pool is done: it was searched, in this round or an earlier one
abbrev pub is_done : PoolStatus → Bool
is_done Done = true
is_done _ = false
