-- Directed graphs. A graph is a list with the successors of each node. Its nodes are the numbers below the length of this list.
use Rattle.std.specs.Prelude.{◌<◌, ℕ, List, [], length, slice_index_or}
use Rattle.support.specs.In.{In}

abbrev pub successors : List (List ℕ) → ℕ → List ℕ
successors graph node = slice_index_or graph node []

-- the node is one of the first nodes, or a successor of a node that is itself reached
pub data IsReached (graph : List (List ℕ)) (first : List ℕ) : ℕ → Type 0 where
  at_start : {node : ℕ} → In node first → IsReached graph first node
  by_edge : {node next : ℕ} → IsReached graph first node → In next (successors graph node) → IsReached graph first next

-- a path from the node leads back to it
abbrev pub IsOnCircle : List (List ℕ) → ℕ → Type 0
IsOnCircle graph node = IsReached graph (successors graph node) node

-- each of these numbers is a node
abbrev pub AreNodes : List (List ℕ) → List ℕ → Type 0
AreNodes graph nodes = (node : ℕ) → In node nodes → node < length graph

-- each successor is a node
abbrev pub IsClosed : List (List ℕ) → Type 0
IsClosed graph = (node : ℕ) → AreNodes graph (successors graph node)
