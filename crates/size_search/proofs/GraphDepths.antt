-- If no node is on a circle, every level is below the number of nodes, and the levels of a node's successors are below its level.
use Rattle.std.proofs.Common.{◌≡◌, ℕ, zero, suc, ◌+◌, ◌<◌, ◌≤◌, max, Bool, true, false, ◌||◌, cond, eqb, List, [], ◌∷◌, length, map, get_or, ⊎_elim, refl, sym, ap, ap₂, subst, ◌∙◌, arith}
use Rattle.std.proofs.lemmas.Bool.{false≢true, cases_lt, cases_Bool, eqb-true, eq-eqb, or_cases}
use Rattle.std.proofs.lemmas.List.{length-map}
use Rattle.support.specs.In.{In, here, there}
use Rattle.size_search.specs.Graph.{successors, IsReached, at_start, by_edge, IsOnCircle, IsClosed}
use Rattle.size_search.specs.Levels.{level_above, levels_within, levels_of}
use Rattle.size_search.proofs.Following.{node_inside}

-- ---- sums

abbrev sum_below : (ℕ → ℕ) → ℕ → ℕ
sum_below f zero = 0
sum_below f (suc n) = sum_below f n + f n

sum_below-le : (f g : ℕ → ℕ) (n : ℕ) → ((s : ℕ) → f s ≤ g s) → sum_below f n ≤ sum_below g n
sum_below-le f g zero each = omega arith
sum_below-le f g (suc n) each =
    let of_f : sum_below f (suc n) ≡ sum_below f n + f n = refl in
    let of_g : sum_below g (suc n) ≡ sum_below g n + g n = refl in
    omega (arith, of_f, of_g, each n, sum_below-le f g n each)

-- if the term at t is smaller by some amount and no term is larger, the sum is smaller by at least this amount
sum_below-le-at : (f g : ℕ → ℕ) (n t less : ℕ) → t < n → ((s : ℕ) → f s ≤ g s) → f t + less ≤ g t → sum_below f n + less ≤ sum_below g n
sum_below-le-at f g zero t less inside each at = absurd (omega (arith, inside))
sum_below-le-at f g (suc n) t less inside each at =
    let of_f : sum_below f (suc n) ≡ sum_below f n + f n = refl in
    let of_g : sum_below g (suc n) ≡ sum_below g n + g n = refl in
    ⊎_elim (λ (before : t < n). omega (arith, of_f, of_g, each n, sum_below-le-at f g n t less before each at))
    (λ (past : n ≤ t).
    let last : t ≡ n = omega (arith, inside, past) in
    let at_last : f n + less ≤ g n = subst (λ (s : ℕ). f s + less ≤ g s) last at in
    omega (arith, of_f, of_g, at_last, sum_below-le f g n each))
    (cases_lt t n)

sum_below_ones : (f : ℕ → ℕ) (n : ℕ) → ((s : ℕ) → f s ≤ 1) → sum_below f n ≤ n
sum_below_ones f zero each = omega arith
sum_below_ones f (suc n) each =
    let step : sum_below f (suc n) ≡ sum_below f n + f n = refl in
    omega (arith, step, each n, sum_below_ones f n each)

-- ---- the level above some nodes

-- the level of the node, computed by following n edges
abbrev level_of : List (List ℕ) → ℕ → ℕ → ℕ
level_of graph n node = get_or (levels_within graph n) node 0

above-cons : (of : List ℕ) (node : ℕ) (nodes : List ℕ) → level_above of (node ∷ nodes) ≡ max (get_or of node 0 + 1) (level_above of nodes)
above-cons of node nodes = refl

pub below_above : (of : List ℕ) {node : ℕ} {nodes : List ℕ} → In node nodes → get_or of node 0 + 1 ≤ level_above of nodes
below_above of {node} (here {xs = nodes}) = omega (arith, above-cons of node nodes)
below_above of (there {y = other} {xs = nodes} at) = omega (arith, above-cons of other nodes, below_above of at)

-- one of the nodes has a level of at least n
record HasHigh (of nodes : List ℕ) (n : ℕ) : Type 0 where
  node : ℕ
  at : In node nodes
  high : n ≤ get_or of node 0

one_as_high : (of nodes : List ℕ) (n : ℕ) → suc n ≤ level_above of nodes → HasHigh of nodes n
one_as_high of [] n high = absurd (omega (arith, high))
one_as_high of (node ∷ nodes) n high =
    ⊎_elim
    (λ (this : n < get_or of node 0 + 1). record { node = node; at = here; high = omega (arith, this) })
    (λ (low : get_or of node 0 + 1 ≤ n). let found = one_as_high of nodes n (omega (arith, above-cons of node nodes, high, low)) in record { node = found.node; at = there found.at; high = found.high })
    (cases_lt n (get_or of node 0 + 1))

-- the least level above some nodes depends only on their levels
above-agree : (known others nodes : List ℕ) → ((node : ℕ) → In node nodes → get_or known node 0 ≡ get_or others node 0) → level_above known nodes ≡ level_above others nodes
above-agree known others [] same = refl
above-agree known others (node ∷ nodes) same = ap₂ (λ (m n : ℕ). max (m + 1) n) (same node here) (above-agree known others nodes (λ j at. same j (there at)))

get_or-changed : {X Y : Type 0} (f : X → Y) (xs : List X) (i : ℕ) (d : X) → get_or (map f xs) i (f d) ≡ f (get_or xs i d)
get_or-changed f [] i d = refl
get_or-changed f (x ∷ xs) zero d = refl
get_or-changed f (x ∷ xs) (suc i) d = get_or-changed f xs i d

level-step : (graph : List (List ℕ)) (n node : ℕ) → level_of graph (suc n) node ≡ level_above (levels_within graph n) (successors graph node)
level-step graph n node = get_or-changed (level_above (levels_within graph n)) graph node []

above-le : (of nodes : List ℕ) (n : ℕ) → ((node : ℕ) → get_or of node 0 ≤ n) → level_above of nodes ≤ suc n
above-le of [] n each = omega arith
above-le of (node ∷ nodes) n each = omega (arith, above-cons of node nodes, each node, above-le of nodes n each)

-- a level computed by following n edges is at most n, whether or not there is a circle
pub level-le : (graph : List (List ℕ)) (n node : ℕ) → get_or (levels_within graph n) node 0 ≤ n
level-le graph zero node = omega arith
level-le graph (suc n) node = omega (arith, level-step graph n node, above-le (levels_within graph n) (successors graph node) n (level-le graph n))

length-within : (graph : List (List ℕ)) (n : ℕ) → n ≡ length graph → length (levels_within graph n) ≡ length graph
length-within graph zero is = is
length-within graph (suc n) is = length-map graph (level_above (levels_within graph n))

pub length-levels_of : (graph : List (List ℕ)) → length (levels_of graph) ≡ length graph
length-levels_of graph = length-within graph (length graph) refl

-- ---- every level is below the number of nodes

abbrev one_if : Bool → ℕ
one_if b = cond b 1 0

-- the number of the nodes in the set `met`
abbrev how_many : List (List ℕ) → (ℕ → Bool) → ℕ
how_many graph met = sum_below (λ j. one_if (met j)) (length graph)

-- the set `met` with a node added
abbrev with_node : ℕ → (ℕ → Bool) → ℕ → Bool
with_node node met j = eqb j node || met j

at_most_one : (b : Bool) → one_if b ≤ 1
at_most_one true = omega arith
at_most_one false = omega arith

no_fewer : (a b : Bool) → one_if b ≤ one_if (a || b)
no_fewer true b = at_most_one b
no_fewer false b = omega arith

none_above : (graph : List (List ℕ)) (met : ℕ → Bool) → how_many graph met ≤ length graph
none_above graph met = sum_below_ones (λ j. one_if (met j)) (length graph) (λ j. at_most_one (met j))

one_more : (graph : List (List ℕ)) (node : ℕ) (met : ℕ → Bool) → node < length graph → met node ≡ false → how_many graph met + 1 ≤ how_many graph (with_node node met)
one_more graph node met inside new =
    let before : one_if (met node) ≡ 0 = ap one_if new in
    let behind : one_if (with_node node met node) ≡ 1 = ap (λ (b : Bool). one_if (b || met node)) (eq-eqb node node refl) in
    sum_below-le-at (λ j. one_if (met j)) (λ j. one_if (with_node node met j)) (length graph) node 1 inside (λ j. no_fewer (eqb j node) (met j)) (omega (arith, before, behind))

-- each node in the set `met` reaches this node
abbrev AllReach : List (List ℕ) → (ℕ → Bool) → ℕ → Type 0
AllReach graph met node = (j : ℕ) → met j ≡ true → IsReached graph (successors graph j) node

all_reach : (graph : List (List ℕ)) (met : ℕ → Bool) (node next : ℕ) → AllReach graph met node → In next (successors graph node) → AllReach graph (with_node node met) next
all_reach graph met node next each at i is_met =
    ⊎_elim
    (λ (this : eqb i node ≡ true). subst (λ (j : ℕ). IsReached graph (successors graph j) next) (sym (eqb-true i node this)) (at_start at))
    (λ (earlier : met i ≡ true). by_edge (each i earlier) at)
    (or_cases (eqb i node) (met i) is_met)

abbrev HasNoCircle : List (List ℕ) → Type 0
HasNoCircle graph = (node : ℕ) → ¬ IsOnCircle graph node

-- if all except n of the nodes are known to reach a node, and no node is on a circle, the level of this node is below n
deep_circle : (graph : List (List ℕ)) → IsClosed graph → HasNoCircle graph → (n node : ℕ) (met : ℕ → Bool) → node < length graph → n ≤ level_of graph n node → length graph ≤ how_many graph met + n → AllReach graph met node → ⊥
deep_circle graph closed none zero node met inside deep many each =
    ⊎_elim
    (λ (again : met node ≡ true). none node (each node again))
    (λ (new : met node ≡ false). omega (arith, one_more graph node met inside new, none_above graph (with_node node met), many))
    (cases_Bool (met node))
deep_circle graph closed none (suc n) node met inside deep many each =
    ⊎_elim
    (λ (again : met node ≡ true). none node (each node again))
    (λ (new : met node ≡ false).
    let found = one_as_high (levels_within graph n) (successors graph node) n (omega (arith, deep, level-step graph n node)) in
    deep_circle graph closed none n found.node (with_node node met) (closed node found.node found.at) found.high
    (omega (arith, one_more graph node met inside new, many))
    (all_reach graph met node found.node each found.at))
    (cases_Bool (met node))

pub shallow : (graph : List (List ℕ)) → IsClosed graph → ((node : ℕ) → ¬ IsOnCircle graph node) → (node : ℕ) → node < length graph → get_or (levels_of graph) node 0 < length graph
shallow graph closed none node inside =
    ⊎_elim
    (λ (low : level_of graph (length graph) node < length graph). low)
    (λ (deep : length graph ≤ level_of graph (length graph) node). absurd (deep_circle graph closed none (length graph) node (λ j. false) inside deep (omega arith) (λ j is_met. absurd (false≢true is_met))))
    (cases_lt (level_of graph (length graph) node) (length graph))

-- ---- further steps do not change the levels

level_is_final : (graph : List (List ℕ)) (n node : ℕ) → level_of graph n node < n → level_of graph (suc n) node ≡ level_of graph n node
level_is_final graph zero node low = absurd (omega (arith, low))
level_is_final graph (suc n) node low =
    level-step graph (suc n) node
    ∙ (above-agree (levels_within graph (suc n)) (levels_within graph n) (successors graph node) (λ j at. level_is_final graph n j (omega (arith, low, level-step graph n node, below_above (levels_within graph n) at)))
    ∙ sym (level-step graph n node))

-- the successors of a node have lower levels
pub levels_sink : (graph : List (List ℕ)) → IsClosed graph → ((node : ℕ) → ¬ IsOnCircle graph node) → (node next : ℕ) → In next (successors graph node) → get_or (levels_of graph) next 0 + 1 ≤ get_or (levels_of graph) node 0
levels_sink graph closed none node next at =
    let inside = node_inside graph node next at in
    let n = length graph in
    omega (arith, below_above (levels_within graph n) at, level-step graph n node, level_is_final graph n node (shallow graph closed none node inside))
