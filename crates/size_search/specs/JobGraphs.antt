-- The graphs of a plan's classes and pools.
use Rattle.std.specs.Prelude.{ℕ, ◌+◌, Bool, true, false, ◌==◌, not, ◌&&◌, ◌||◌, if◌then◌else◌, List, [], ◌∷◌, ◌++◌, length, map, replicate, slice_index_or}
use Rattle.std.specs.List.{flat_map, enumerate_from}
use Rattle.job_bodies.specs.declared.action.Action.{Action}
use Rattle.job_bodies.specs.declared.action.Action.TheVariants.{Work, Submit, Get}
use Rattle.job_bodies.specs.Plan.{Pool, Class, Client, Plan, submitted_class}

-- the classes that the actions submit, in order
abbrev pub submits_of : List Action → List ℕ
submits_of [] = []
submits_of (Work u ∷ rest) = submits_of rest
submits_of (Submit k ∷ rest) = k ∷ submits_of rest
submits_of (Get t ∷ rest) = submits_of rest

-- the classes of the jobs that the actions get, in order. `body` is the whole body, which has the submits of these jobs.
abbrev pub gets_of : List Action → List Action → List ℕ
gets_of body [] = []
gets_of body (Work u ∷ rest) = gets_of body rest
gets_of body (Submit k ∷ rest) = gets_of body rest
gets_of body (Get t ∷ rest) = submitted_class body t ∷ gets_of body rest

-- ---- the graph of submits

-- the successors of a class are the classes that it submits
abbrev pub submit_graph : Plan → List (List ℕ)
submit_graph plan = map (λ (class : Class). submits_of class.body) plan.classes

-- the classes that a client submits directly. If the flag is true, the list is empty for a client that does not repeat.
abbrev pub submits_of_client : Bool → Client → List ℕ
submits_of_client repeating client = if client.repeat || not repeating then submits_of client.body else []

-- the classes that clients submit directly. If the flag is true, only repeating clients count.
abbrev pub client_submits : Plan → Bool → List ℕ
client_submits plan repeating = flat_map (submits_of_client repeating) plan.clients

-- ---- the graph of waits

-- the node of pool p, after the nodes of the classes
abbrev pub pool_node : Plan → ℕ → ℕ
pool_node plan p = length plan.classes + p

-- the successors of a class in the graph: the node of its pool, and the classes whose jobs it gets
abbrev pub class_waits : Plan → Class → List ℕ
class_waits plan class = pool_node plan class.pool ∷ gets_of class.body class.body

-- the classes whose jobs this class gets, if it is a marked class of pool p; otherwise none
abbrev pub marked_gets : List Bool → ℕ → ℕ × Class → List ℕ
marked_gets marks p entry = if entry.1.pool == p && slice_index_or marks entry.0 false then gets_of entry.1.body entry.1.body else []

-- the successors of a pool in the graph: if its core threads may time out, the classes whose jobs its marked classes get;
-- otherwise none
abbrev pub pool_waits : Plan → List Bool → ℕ → Pool → List ℕ
pool_waits plan marks p pool = if pool.core_timeout then flat_map (marked_gets marks p) (enumerate_from 0 plan.classes) else []

abbrev pub class_nodes : Plan → List (List ℕ)
class_nodes plan = map (class_waits plan) plan.classes

abbrev pub pool_nodes : Plan → List Bool → List (List ℕ)
pool_nodes plan marks = map (λ (entry : ℕ × Pool). pool_waits plan marks entry.0 entry.1) (enumerate_from 0 plan.pools)

-- the graph of waits: the nodes of the classes, and then the nodes of the pools
abbrev pub wait_graph : Plan → List Bool → List (List ℕ)
wait_graph plan marks = class_nodes plan ++ pool_nodes plan marks

-- each class is marked
abbrev pub all_marks : Plan → List Bool
all_marks plan = replicate (length plan.classes) true
