-- A picture of a plan, as a Graphviz graph: nodes for client kinds and for classes, a box for each pool, and edges for submits
-- and gets.
use Rattle.std.specs.Prelude.{ℕ, Bool, false, true, ◌==◌, ◌&&◌, if◌then◌else◌, List, [], ◌∷◌, ◌++◌, length, codes, decimal, Option, Some, None, slice_get}
use Rattle.std.specs.List.{count_by, enumerate_from, flat_map, list_any, range_with_len}
use Rattle.job_bodies.specs.declared.action.Action.{Action}
use Rattle.job_bodies.specs.declared.action.Action.TheVariants.{Submit, Get}
use Rattle.job_bodies.specs.Plan.{Pool, Class, Client, Plan}
use Rattle.weights.specs.Bound.{bound_vector}
use Rattle.weights.specs.declared.bound.Bound.{Bound}
use Rattle.weights.specs.Ranks.{Ranks, ranks_fit, is_counted}
use Rattle.cert_text.specs.Cert.{PoolCert}
use Rattle.report.specs.Places.{bounds_jobs, total_of}
use Rattle.report.specs.SafeText.{most_text, queue_size, threads_text}
use Rattle.report.specs.declared.finding.PlanFinding.{PlanFinding}
use Rattle.report.specs.declared.finding.PlanFinding.TheVariants.{Safe, NotSafe, NotDecided}

-- ---- nodes

abbrev pub rounds : Bool → List ℕ
rounds true = codes "again and again"
rounds false = codes "once"

-- the node of a client kind
abbrev pub client_node : ℕ × Client → List ℕ
client_node (c, client) =
    codes "  client" ++ (decimal c ++ (codes " [shape=ellipse label=\"" ++ (decimal client.count ++ (codes " " ++ (client.name ++ (codes "\\n" ++ (rounds client.repeat ++ (codes "\"]" ++ 10 ∷ []))))))))

abbrev pub client_nodes : List Client → List ℕ
client_nodes clients = flat_map client_node (enumerate_from 0 clients)

abbrev pub class_line : ℕ → List ℕ → List ℕ
class_line k name = codes "    class" ++ (decimal k ++ (codes " [shape=box label=\"" ++ (name ++ (codes "\"]" ++ 10 ∷ []))))

-- the node of a class, if it belongs to pool p
abbrev pub class_node : ℕ → ℕ × Class → List ℕ
class_node p (k, class) = if class.pool == p then class_line k class.name else []

abbrev pub class_nodes : List Class → ℕ → List ℕ
class_nodes classes p = flat_map (class_node p) (enumerate_from 0 classes)

-- a line break, and what the total of the bound limits; empty if there is no total
abbrev pub most_part : Bound → Option ℕ → List ℕ
most_part bound None = []
most_part bound (Some n) = codes "\\n" ++ most_text bound n

-- a line break and `may reject`, for a pool without a bound; empty if the queue of the pool is unbounded
abbrev pub no_bound_part : Pool → List ℕ
no_bound_part pool = if pool.unbounded then [] else codes "\\nmay reject"

-- the text about the bound of the queue of pool p. If there is no bound, or its total does not limit the jobs in an unbounded
-- queue, it is `no_bound_part`
abbrev pub bound_of : Plan → ℕ → Pool → Option Bound → List ℕ
bound_of plan p pool None = no_bound_part pool
bound_of plan p pool (Some bound) = if bounds_jobs plan p bound then most_part bound (total_of plan (bound_vector bound)) else no_bound_part pool

abbrev pub bound_part : Plan → ℕ → Pool → Option PoolCert → List ℕ
bound_part plan p pool None = []
bound_part plan p pool (Some part) = bound_of plan p pool part.bound

-- the name of pool p, its sizes, and its bound if it is known
abbrev pub pool_label : Plan → ℕ → Pool → Option PoolCert → List ℕ
pool_label plan p pool part = pool.name ++ (codes "\\n" ++ (threads_text pool ++ (codes ", queue " ++ (queue_size pool ++ bound_part plan p pool part))))

-- the node with the label of pool p
abbrev pub label_node : ℕ → List ℕ → List ℕ
label_node p label = codes "    pool" ++ (decimal p ++ (codes " [shape=plaintext label=\"" ++ (label ++ (codes "\"]" ++ 10 ∷ []))))

-- the first line of the box of pool p
abbrev pub box_start : ℕ → List ℕ
box_start p = codes "  subgraph cluster" ++ (decimal p ++ (codes " {" ++ 10 ∷ []))

-- the nodes of the classes in the box of pool p, and its end
abbrev pub box_nodes : List Class → ℕ → List ℕ
box_nodes classes p = class_nodes classes p ++ (codes "  }" ++ 10 ∷ [])

-- the box of pool p, with its classes
unfoldable pub box_text : Plan → ℕ → Pool → Option PoolCert → List ℕ
box_text plan p pool part = (box_start p ++ label_node p (pool_label plan p pool part)) ++ box_nodes plan.classes p

-- the box of pool p; `parts` are the parts of the certificate, one for each pool
abbrev pub pool_box : Plan → List PoolCert → ℕ × Pool → List ℕ
pool_box plan parts (p, pool) = box_text plan p pool (slice_get parts p)

abbrev pub pool_boxes : Plan → List PoolCert → List ℕ
pool_boxes plan parts = flat_map (pool_box plan parts) (enumerate_from 0 plan.pools)

-- ---- edges

abbrev pub submits_class : ℕ → Option Action → Bool
submits_class k (Some (Submit c)) = c == k
submits_class k _ = false

-- the number of submits of class k in a body
abbrev pub submit_count : List Action → ℕ → ℕ
submit_count body k = count_by (λ action. submits_class k (Some action)) body

-- the action of the body gets a job of class k
abbrev pub gets_class : List Action → ℕ → Action → Bool
gets_class body k (Get t) = submits_class k (slice_get body t)
gets_class body k _ = false

abbrev pub has_get : List Action → ℕ → Bool
has_get body k = list_any (gets_class body k) body

-- the action at position i of the body of class n is a counted get of a job of class k
abbrev pub is_counted_get : Plan → Ranks → ℕ → List Action → ℕ → ℕ × Action → Bool
is_counted_get plan ranks n body k (i, action) = gets_class body k action && is_counted plan ranks n i

-- the body of class n has a counted get of a job of class k; false if there are no ranks, or if they do not fit the plan
abbrev pub has_counted_get : Plan → Option Ranks → ℕ → List Action → ℕ → Bool
has_counted_get plan None n body k = false
has_counted_get plan (Some ranks) n body k = ranks_fit plan ranks && list_any (is_counted_get plan ranks n body k) (enumerate_from 0 body)

-- an edge from the node of this kind and number to class k
abbrev pub edge : List ℕ → ℕ → ℕ → List ℕ
edge kind n k = codes "  " ++ (kind ++ (decimal n ++ (codes " -> class" ++ decimal k)))

-- the label with the number of submits; empty for one submit
abbrev pub times_label : ℕ → List ℕ
times_label times = if times == 1 then [] else codes " [label=\"" ++ (decimal times ++ codes "\"]")

-- the edge for `times` submits of jobs of class k; empty if `times` is 0
abbrev pub submit_edge : List ℕ → ℕ → ℕ → ℕ → List ℕ
submit_edge kind n k times = if times == 0 then [] else edge kind n k ++ (times_label times ++ 10 ∷ [])

abbrev pub style : Bool → List ℕ
style counted = if counted then codes "dashed,bold" else codes "dashed"

abbrev pub style_part : List ℕ → List ℕ
style_part words = codes " [style=\"" ++ (words ++ (codes "\" arrowhead=none constraint=false]" ++ 10 ∷ []))

-- the edge for gets of jobs of class k, bold if one of them is counted; empty if there are no gets
abbrev pub get_edge : List ℕ → ℕ → ℕ → Bool → Bool → List ℕ
get_edge kind n k gets counted = if gets then edge kind n k ++ style_part (style counted) else []

-- the edges from a client kind to class k
abbrev pub client_edges_to : ℕ → List Action → ℕ → List ℕ
client_edges_to c body k = submit_edge (codes "client") c k (submit_count body k) ++ get_edge (codes "client") c k (has_get body k) false

-- the edges from class n to class k
abbrev pub class_edges_to : Plan → Option Ranks → ℕ → List Action → ℕ → List ℕ
class_edges_to plan ranks n body k =
    submit_edge (codes "class") n k (submit_count body k) ++ get_edge (codes "class") n k (has_get body k) (has_counted_get plan ranks n body k)

abbrev pub edges_from_client : Plan → ℕ × Client → List ℕ
edges_from_client plan (c, client) = flat_map (client_edges_to c client.body) (range_with_len 0 (length plan.classes))

abbrev pub edges_from_class : Plan → Option Ranks → ℕ × Class → List ℕ
edges_from_class plan ranks (n, class) = flat_map (class_edges_to plan ranks n class.body) (range_with_len 0 (length plan.classes))

abbrev pub client_edges : Plan → List ℕ
client_edges plan = flat_map (edges_from_client plan) (enumerate_from 0 plan.clients)

abbrev pub class_edges : Plan → Option Ranks → List ℕ
class_edges plan ranks = flat_map (edges_from_class plan ranks) (enumerate_from 0 plan.classes)

-- ---- the graph

-- the first lines: the direction, and the fonts
abbrev pub head : List ℕ
head =
    (codes "digraph plan {" ++ 10 ∷ []) ++ ((codes "  rankdir=LR" ++ 10 ∷ []) ++ ((codes "  node [fontname=\"sans-serif\" fontsize=11]" ++ 10 ∷ [])
    ++ (codes "  edge [fontname=\"sans-serif\" fontsize=9]" ++ 10 ∷ [])))

-- the nodes of the client kinds, the boxes of the pools, and the edges from the client kinds and from the classes
abbrev pub graph_text : Plan → List PoolCert → Option Ranks → List ℕ
graph_text plan parts ranks =
    head ++ (client_nodes plan.clients ++ (pool_boxes plan parts ++ (client_edges plan ++ (class_edges plan ranks ++ (codes "}" ++ 10 ∷ [])))))

-- the graph of a plan. If a certificate accepts the plan, the graph shows the bounds of the queues and the counted gets
abbrev pub picture_text : Plan → PlanFinding → List ℕ
picture_text plan (Safe cert rejections) = graph_text plan cert.pools (Some cert.ranks)
picture_text plan (NotSafe witness sizes) = graph_text plan [] None
picture_text plan (NotDecided sizes) = graph_text plan [] None
