-- Marks of nodes, and sets of nodes some of whose successors were not added yet.
use Rattle.std.specs.Prelude.{◌≡◌, ◌≤◌, ◌+◌, ◌⊎◌, ◌↔◌, ℕ, Bool, true, false, not, List, length, count_by, slice_index_or}
use Rattle.support.specs.In.{In}
use Rattle.size_search.specs.Graph.{successors, IsReached}
use Rattle.size_search.specs.declared.node_set.NodeSet.{NodeSet}

-- there is one mark for each node, and it is true exactly if the node is reached
pub record MarksReached (graph : List (List ℕ)) (first : List ℕ) (marks : List Bool) : Type 0 where
  pub as_many : length marks ≡ length graph
  pub reached : (node : ℕ) → (slice_index_or marks node false ≡ true) ↔ IsReached graph first node

-- ---- sets of nodes

-- the set has the node
abbrev pub Has : NodeSet → ℕ → Type 0
Has set node = slice_index_or set.is_found.items node false ≡ true

-- the set has each of the nodes
abbrev pub Covers : NodeSet → List ℕ → Type 0
Covers set nodes = (node : ℕ) → In node nodes → Has set node

-- the number of nodes that the set does not have
abbrev pub unfound : NodeSet → ℕ
unfound set = count_by not set.is_found.items

-- the new set is the old one with some nodes added, each of which is pending
pub record Grows (old new : NodeSet) : Type 0 where
  pub as_many : length new.is_found.items ≡ length old.is_found.items
  pub kept : (node : ℕ) → Has old node → Has new node
  pub still : (node : ℕ) → In node old.pending.items → In node new.pending.items
  pub fresh : (node : ℕ) → Has new node → Has old node ⊎ In node new.pending.items
  pub waiting : (node : ℕ) → In node new.pending.items → In node old.pending.items ⊎ Has new node
  pub fewer : unfound new + length new.pending.items ≡ unfound old + length old.pending.items

-- every node of the set is reached, and the set also has the successors of each of its nodes that is not pending
pub record IsReaching (graph : List (List ℕ)) (first : List ℕ) (set : NodeSet) : Type 0 where
  pub as_many : length set.is_found.items ≡ length graph
  pub reached : (node : ℕ) → Has set node → IsReached graph first node
  pub waiting : (node : ℕ) → In node set.pending.items → Has set node
  pub followed : (node : ℕ) → Has set node → In node set.pending.items ⊎ Covers set (successors graph node)
  pub few : unfound set + length set.pending.items ≤ length graph
