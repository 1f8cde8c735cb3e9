-- The abstract view of the clients that moved.
use Rattle.std.specs.Prelude.{ℕ, List, Option, Some, None, slice_get, nat_eq}
use Rattle.std.specs.Map.{lookup}
use Rattle.pool_machine.specs.declared.client_state.ClientState.{ClientState}

-- the clients that moved. `front` has the states of the clients with the lowest numbers, and `others` those of all other
-- clients that moved. `room` is the number of further clients for which memory is reserved.
pub record Moved : Type 0 where
  pub front : List ClientState
  pub others : List (ℕ × ClientState)
  pub room : ℕ

abbrev pub first_of : Option ClientState → Option ClientState → Option ClientState
first_of None other = other
first_of (Some client) other = Some client

-- the state of the client with this number, or None if it has not moved
abbrev pub moved_at : Moved → ℕ → Option ClientState
moved_at moved q = first_of (slice_get moved.front q) (lookup (nat_eq q) moved.others)

-- the state of the client after its move to position i
abbrev pub at_position : ℕ → ClientState → ClientState
at_position i client = record client { position = i }
