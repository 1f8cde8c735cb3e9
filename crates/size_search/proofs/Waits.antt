-- A pool is on a circle of the graph of waits exactly if it waits for itself.
use Rattle.std.proofs.Common.{◌≡◌, ℕ, ◌<◌, ◌⊎◌, inl, inr, Bool, true, false, List, [], ◌∷◌, length, get_or, ⊎_elim, refl, sym, ap, subst, ◌∙◌, arith}
use Rattle.support.specs.In.{In, here, there}
use Rattle.support.proofs.Members.{In-cons_cases}
use Rattle.job_bodies.specs.Plan.{Plan, pool_at, class_at}
use Rattle.job_bodies.proofs.Bodies.{HasValidBodies}
use Rattle.size_search.specs.Graph.{successors, IsReached, at_start, by_edge, IsOnCircle}
use Rattle.size_search.proofs.Following.{node_inside, reached_further, no_circle_past}
use Rattle.size_search.specs.Submitted.{IsSubmitted, begins, follows, NoCircle}
use Rattle.size_search.specs.ByClients.{client_bodies, MarksSubmitted}
use Rattle.size_search.specs.Waiting.{GetsClass, MayLoseThreads, HoldsLastThread, WaitsFor, at_get, by_job, by_thread, WaitsForItself, NoneWaitsForItself}
use Rattle.size_search.specs.JobGraphs.{gets_of, pool_node, wait_graph}
use Rattle.size_search.proofs.JobGraphs.{got_in, got_from, got_inside, getter_inside, submits_what_it_gets, length-waits, class_successors, pool_successors, IsWaitOfPool, pool_waits_from, In-pool_waits, NodeIs, is_class, is_pool, is_none, node_is}

-- clients submit each marked class that has a get and whose pool's core threads may time out
abbrev pub MarksUsed : Plan → List Bool → Type 0
MarksUsed plan marks = (k j : ℕ) → get_or marks k false ≡ true → MayLoseThreads plan k → GetsClass (class_at plan k).body j → IsSubmitted plan (client_bodies plan) k

-- ---- what the nodes mean that are reached from pool p

-- the last thread of pool p waits for the class of the node, or for a class of the pool of the node
record Means (plan : Plan) (p x : ℕ) : Type 0 where
  of_class : x < length plan.classes → WaitsFor plan p x
  of_pool : (q : ℕ) → x ≡ pool_node plan q → (i : ℕ) × ((class_at plan i).pool ≡ q) × WaitsFor plan p i

means_class : (plan : Plan) (p j : ℕ) → j < length plan.classes → WaitsFor plan p j → Means plan p j
means_class plan p j inside waits = record { of_class = λ _. waits; of_pool = λ q is. absurd (omega (arith, is, inside)) }

-- the class of a wait of a pool holds the last thread of its pool
holds : (plan : Plan) (marks : List Bool) (p j : ℕ) → MarksUsed plan marks → (wait : IsWaitOfPool plan marks p j) → HoldsLastThread plan wait.class j
holds plan marks p j used wait =
    let may_lose : (pool_at plan (class_at plan wait.class).pool).core_timeout ≡ true = ap (λ (q : ℕ). (pool_at plan q).core_timeout) wait.of_pool ∙ wait.may_lose in
    record { submitted = used wait.class j wait.marked may_lose wait.gets; may_lose = may_lose; gets = wait.gets }

means_further : (plan : Plan) (marks : List Bool) (p x y : ℕ) → HasValidBodies plan → MarksUsed plan marks → Means plan p x → In y (successors (wait_graph plan marks) x) → Means plan p y
means_further plan marks p x y ordered used means at = of_node (node_is plan x)
  where
    of_node : NodeIs plan x → Means plan p y
    of_node (is_class inside) =
        let body = (class_at plan x).body in
        let waits = means.of_class inside in
        ⊎_elim
        (λ (same : y ≡ pool_node plan (class_at plan x).pool). record { of_class = λ within. absurd (omega (arith, same, within)); of_pool = λ q is. (x, omega (arith, same, is), waits) })
        (λ later. let gets = got_from body y later in means_class plan p y (got_inside plan body y (ordered.classes x) gets) (by_job waits gets))
        (In-cons_cases (subst (In y) (class_successors plan marks x inside) at))
    of_node (is_pool q is inside) =
        let wait = pool_waits_from plan marks q y (subst (In y) (ap (successors (wait_graph plan marks)) is ∙ pool_successors plan marks q inside) at) in
        let before = means.of_pool q is in
        means_class plan p y (got_inside plan (class_at plan wait.class).body y (ordered.classes wait.class) wait.gets) (by_thread before.2 (wait.of_pool ∙ sym before.1) (holds plan marks q y used wait))
    of_node (is_none far) = absurd (omega (arith, far, length-waits plan marks, node_inside (wait_graph plan marks) x y at))

-- what is reached from a node that means something for p means something for p
means_reached : (plan : Plan) (marks : List Bool) (p x : ℕ) → HasValidBodies plan → MarksUsed plan marks → Means plan p x → {y : ℕ} → IsReached (wait_graph plan marks) (successors (wait_graph plan marks) x) y → Means plan p y
means_reached plan marks p x ordered used means (at_start {node = y} at) = means_further plan marks p x y ordered used means at
means_reached plan marks p x ordered used means (by_edge {node = z} {next = y} known at) = means_further plan marks p z y ordered used (means_reached plan marks p x ordered used means known) at

means_from_pool : (plan : Plan) (marks : List Bool) (p : ℕ) → HasValidBodies plan → MarksUsed plan marks → p < length plan.pools → {y : ℕ} → IsReached (wait_graph plan marks) (successors (wait_graph plan marks) (pool_node plan p)) y → Means plan p y
means_from_pool plan marks p ordered used inside (at_start {node = y} at) =
    let wait = pool_waits_from plan marks p y (subst (In y) (pool_successors plan marks p inside) at) in
    means_class plan p y (got_inside plan (class_at plan wait.class).body y (ordered.classes wait.class) wait.gets) (at_get wait.of_pool (holds plan marks p y used wait))
means_from_pool plan marks p ordered used inside (by_edge {node = z} {next = y} known at) = means_further plan marks p z y ordered used (means_from_pool plan marks p ordered used inside known) at

-- a pool on a circle waits for itself
pub waits_where_circle : (plan : Plan) (marks : List Bool) (p : ℕ) → HasValidBodies plan → MarksUsed plan marks → p < length plan.pools → IsOnCircle (wait_graph plan marks) (pool_node plan p) → WaitsForItself plan p
waits_where_circle plan marks p ordered used inside circle =
    let found = (means_from_pool plan marks p ordered used inside circle).of_pool p refl in
    record { class = found.0; of_pool = found.1; waits = found.2 }

-- ---- what is reached where a pool waits

waited_inside : (plan : Plan) (p : ℕ) → HasValidBodies plan → {j : ℕ} → WaitsFor plan p j → j < length plan.classes
waited_inside plan p ordered (at_get {k = k} {j = j} of_pool holding) = got_inside plan (class_at plan k).body j (ordered.classes k) holding.gets
waited_inside plan p ordered (by_job {i = i} {j = j} waits gets) = got_inside plan (class_at plan i).body j (ordered.classes i) gets
waited_inside plan p ordered (by_thread {k = k} {j = j} waits same holding) = got_inside plan (class_at plan k).body j (ordered.classes k) holding.gets

-- a class that holds the last thread of its pool is a successor of the pool
successor_of_pool : (plan : Plan) (marks : List Bool) (p k j : ℕ) → HasValidBodies plan → MarksSubmitted plan marks → (class_at plan k).pool ≡ p → HoldsLastThread plan k j → In j (successors (wait_graph plan marks) (pool_node plan p))
successor_of_pool plan marks p k j ordered marked of_pool holding =
    let inside : p < length plan.pools = omega (arith, of_pool, ordered.pools k (getter_inside plan k j holding.gets)) in
    subst (In j) (sym (pool_successors plan marks p inside))
    (In-pool_waits plan marks p j (record {
      class = k;
      of_pool = of_pool;
      marked = (marked.submitted k).1 holding.submitted;
      may_lose = ap (λ (q : ℕ). (pool_at plan q).core_timeout) (sym of_pool) ∙ holding.may_lose;
      gets = holding.gets;
    }))

reached_where_waits : (plan : Plan) (marks : List Bool) (p : ℕ) → HasValidBodies plan → MarksSubmitted plan marks → {j : ℕ} → WaitsFor plan p j → IsReached (wait_graph plan marks) (successors (wait_graph plan marks) (pool_node plan p)) j
reached_where_waits plan marks p ordered marked (at_get {k = k} {j = j} of_pool holding) = at_start (successor_of_pool plan marks p k j ordered marked of_pool holding)
reached_where_waits plan marks p ordered marked (by_job {i = i} {j = j} waits gets) =
    by_edge (reached_where_waits plan marks p ordered marked waits) (subst (In j) (sym (class_successors plan marks i (getter_inside plan i j gets))) (there (got_in (class_at plan i).body j gets)))
reached_where_waits plan marks p ordered marked (by_thread {i = i} {k = k} {j = j} waits same holding) =
    by_edge (by_edge (reached_where_waits plan marks p ordered marked waits) (subst (In (pool_node plan (class_at plan i).pool)) (sym (class_successors plan marks i (waited_inside plan p ordered waits))) here))
    (successor_of_pool plan marks (class_at plan i).pool k j ordered marked same holding)

-- a pool that waits for itself is on a circle
pub circle_where_waits : (plan : Plan) (marks : List Bool) (p : ℕ) → HasValidBodies plan → MarksSubmitted plan marks → WaitsForItself plan p → IsOnCircle (wait_graph plan marks) (pool_node plan p)
circle_where_waits plan marks p ordered marked waits =
    let gets = gets_of (class_at plan waits.class).body (class_at plan waits.class).body in
    let node : In (pool_node plan p) (successors (wait_graph plan marks) waits.class) =
    subst (In (pool_node plan p)) (sym (class_successors plan marks waits.class (waited_inside plan p ordered waits.waits))) (subst (λ (q : ℕ). In (pool_node plan p) (pool_node plan q ∷ gets)) (sym waits.of_pool) here) in
    by_edge (reached_where_waits plan marks p ordered marked waits.waits) node

-- ---- circles through classes

-- a path from class k to class y leads through the node of a pool
record IsThroughPool (plan : Plan) (marks : List Bool) (k y : ℕ) : Type 0 where
  pool : ℕ
  inside : pool < length plan.pools
  to : IsReached (wait_graph plan marks) (successors (wait_graph plan marks) k) (pool_node plan pool)
  from : IsReached (wait_graph plan marks) (successors (wait_graph plan marks) (pool_node plan pool)) y

-- a class that is reached from class k without a pool is submitted by class k
traced : (plan : Plan) (marks : List Bool) (k : ℕ) → HasValidBodies plan → k < length plan.classes → {y : ℕ} → IsReached (wait_graph plan marks) (successors (wait_graph plan marks) k) y → y < length plan.classes
    → IsSubmitted plan ((class_at plan k).body ∷ []) y ⊎ IsThroughPool plan marks k y
traced plan marks k ordered inside (at_start {node = y} at) within =
    let body = (class_at plan k).body in
    ⊎_elim
    (λ (same : y ≡ pool_node plan (class_at plan k).pool). absurd (omega (arith, same, within)))
    (λ later. inl (begins here (submits_what_it_gets plan body y (ordered.classes k) (got_from body y later))))
    (In-cons_cases (subst (In y) (class_successors plan marks k inside) at))
traced plan marks k ordered inside (by_edge {node = z} {next = y} known at) within = of_node (λ before. traced plan marks k ordered inside known before) (node_is plan z)
  where
    of_node : (z < length plan.classes → IsSubmitted plan ((class_at plan k).body ∷ []) z ⊎ IsThroughPool plan marks k z) → NodeIs plan z → IsSubmitted plan ((class_at plan k).body ∷ []) y ⊎ IsThroughPool plan marks k y
    of_node earlier (is_class before) =
        let body = (class_at plan z).body in
        ⊎_elim
        (λ (same : y ≡ pool_node plan (class_at plan z).pool). absurd (omega (arith, same, within)))
        (λ later.
        ⊎_elim
        (λ submitted. inl (follows submitted (submits_what_it_gets plan body y (ordered.classes z) (got_from body y later))))
        (λ through. inr (record { pool = through.pool; inside = through.inside; to = through.to; from = by_edge through.from at }))
        (earlier before))
        (In-cons_cases (subst (In y) (class_successors plan marks z before) at))
    of_node earlier (is_pool p is there_is) =
        let edge : In y (successors (wait_graph plan marks) (pool_node plan p)) = subst (λ (x : ℕ). In y (successors (wait_graph plan marks) x)) is at in
        inr (record { pool = p; inside = there_is; to = subst (λ (x : ℕ). IsReached (wait_graph plan marks) (successors (wait_graph plan marks) k) x) is known; from = at_start edge })
    of_node earlier (is_none far) = absurd (omega (arith, far, length-waits plan marks, node_inside (wait_graph plan marks) z y at))

-- if no class submits itself and no pool waits for itself, the graph has no circle
pub no_wait_circle : (plan : Plan) (marks : List Bool) → HasValidBodies plan → MarksUsed plan marks → NoCircle plan → NoneWaitsForItself plan → (x : ℕ) → ¬ IsOnCircle (wait_graph plan marks) x
no_wait_circle plan marks ordered used no_circle none x circle = of_node (node_is plan x)
  where
    through_pool : (p : ℕ) → p < length plan.pools → IsOnCircle (wait_graph plan marks) (pool_node plan p) → ⊥
    through_pool p inside of_pool = none p (waits_where_circle plan marks p ordered used inside of_pool)

    of_node : NodeIs plan x → ⊥
    of_node (is_class inside) =
        ⊎_elim
        (λ submitted. no_circle x submitted)
        (λ (through : IsThroughPool plan marks x x). through_pool through.pool through.inside (reached_further (wait_graph plan marks) (successors (wait_graph plan marks) (pool_node plan through.pool)) through.from through.to))
        (traced plan marks x ordered inside circle inside)
    of_node (is_pool p is inside) = through_pool p inside (subst (IsOnCircle (wait_graph plan marks)) is circle)
    of_node (is_none far) = no_circle_past (wait_graph plan marks) x (omega (arith, far, length-waits plan marks)) circle
