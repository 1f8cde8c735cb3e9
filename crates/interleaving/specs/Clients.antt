-- The abstract view of the clients of a world, and its representation by the clients that moved and the numbers of clients of
-- each kind.
use Rattle.std.specs.Prelude.{◌≡◌, ℕ, ◌+◌, ◌-◌, ◌<◌, ◌≤◌, List, [], ◌∷◌, ◌++◌, length, replicate, slice_index_or, Option, Some, None}
use Rattle.job_bodies.specs.Plan.{Client}
use Rattle.pool_machine.specs.declared.client_state.ClientState.{ClientState}
use Rattle.pool_machine.specs.declared.parent.Parent.{Parent}
use Rattle.pool_machine.specs.declared.parent.Parent.TheVariants as parent

-- the states of all clients, and the number of first moves for which memory is reserved
pub record ClientList : Type 0 where
  pub items : List ClientState
  pub room : ℕ

-- the state of the client with this number
abbrev pub client_of : List ClientState → ℕ → ClientState
client_of clients c = slice_index_or clients c (record { kind = 0; position = 0 })

-- if the actor is a client, it is at position i
abbrev pub IsClientAt : List ClientState → Parent → ℕ → Type 0
IsClientAt clients (parent.Client c) i = (client_of clients c).position ≡ i
IsClientAt clients (parent.Job j) i = Unit {0}

-- if the actor is a client at the start of its body, memory is reserved for its first move
abbrev pub CanMove : ClientList → Parent → Type 0
CanMove list (parent.Client c) = (client_of list.items c).position ≡ 0 → 0 < list.room
CanMove list (parent.Job j) = Unit {0}

-- the actor is a client, and position i is the start of its body
abbrev pub IsFirst : Parent → ℕ → Type 0
IsFirst (parent.Client c) i = i ≡ 0
IsFirst (parent.Job j) i = ⊥

-- ---- the representation

-- for each client kind in the list, the number of clients of this kind and of all kinds before it. The kinds before the list
-- have n clients.
abbrev pub ends_from : ℕ → List Client → List ℕ
ends_from n [] = []
ends_from n (kind ∷ kinds) = (n + kind.count) ∷ ends_from (n + kind.count) kinds

-- the list is in ascending order, and each of its numbers is at least n
abbrev pub IsRising : ℕ → List ℕ → Type 0
IsRising n [] = Unit {0}
IsRising n (end ∷ ends) = (n ≤ end) × IsRising end ends

-- the clients of the kinds with these ends (see `ends_from`), each at the start of its body. The first of these kinds has the
-- number `kind`, and all kinds before it have n clients together.
abbrev pub starting : ℕ → ℕ → List ℕ → List ClientState
starting kind n [] = []
starting kind n (end ∷ ends) = replicate (end - n) (record { kind = kind; position = 0 }) ++ starting (kind + 1) end ends

-- the state to which a client has moved, or the state `client`, in which it starts, if it has not moved
abbrev pub moved_or : Option ClientState → ClientState → ClientState
moved_or None client = client
moved_or (Some moved) client = moved

-- the current states of the clients in the list, of which the first has number n. A client that has moved has its state in
-- `at`, and any other client has its state in the list.
abbrev pub standing : (ℕ → Option ClientState) → ℕ → List ClientState → List ClientState
standing at n [] = []
standing at n (client ∷ clients) = moved_or (at n) client ∷ standing at (n + 1) clients

-- the ends are in ascending order, and every client that moved exists
pub record AreClients (ends : List ℕ) (at : ℕ → Option ClientState) : Type 0 where
  pub rising : IsRising 0 ends
  pub inside : (n : ℕ) (client : ClientState) → at n ≡ Some client → n < length (starting 0 0 ends)
