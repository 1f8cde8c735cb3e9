-- The ranks of the steady certificate are such that no get of a pool is counted whose core threads may time out.
use Rattle.std.proofs.Common.{◌≡◌, ℕ, zero, suc, ◌+◌, ◌<◌, ◌≤◌, Bool, true, false, cond, List, length, replicate, get_or, refl, sym, ap, subst, ◌∙◌, arith}
use Rattle.std.proofs.lemmas.Bool.{false≢true}
use Rattle.std.proofs.lemmas.List.{get_or-drop, get_or-take}
use Rattle.support.specs.In.{In, here, there}
use Rattle.support.proofs.Members.{In-get_or, list_any_at_In}
use Rattle.job_bodies.specs.Plan.{Pool, Plan, no_pool, class_at}
use Rattle.job_bodies.proofs.Bodies.{HasValidBodies}
use Rattle.size_search.specs.Graph.{successors}
use Rattle.size_search.proofs.GraphDepths.{level-le, length-levels_of, levels_sink}
use Rattle.size_search.specs.Waiting.{GetsClass, MayLoseThreads, IsSteady}
use Rattle.size_search.specs.JobGraphs.{pool_node, wait_graph, all_marks}
use Rattle.size_search.specs.Steady.{has_core_timeouts, levels_of_waits, wait_levels, steady_ranks}
use Rattle.size_search.proofs.JobGraphs.{got_in, getter_inside, length-waits, wait_closed, class_successors, pool_successors, In-pool_waits}
use Rattle.size_search.proofs.Waits.{no_wait_circle}
use Rattle.size_search.proofs.ZeroVectors.{zero_at, length-zeros}

-- the number of the node: the reach of a class, or the rank of a pool
abbrev at_node : Plan → ℕ → ℕ
at_node plan x = get_or (wait_levels plan) x 0

record WaitLaws (plan : Plan) : Type 0 where
  reaches : (k : ℕ) → k < length plan.classes → at_node plan (pool_node plan (class_at plan k).pool) ≤ at_node plan k
  falls : (k j : ℕ) → GetsClass (class_at plan k).body j → at_node plan j ≤ at_node plan k
  below : (k j : ℕ) → MayLoseThreads plan k → GetsClass (class_at plan k).body j → at_node plan j < at_node plan (pool_node plan (class_at plan k).pool)

marked : (n k : ℕ) → k < n → get_or (replicate n true) k false ≡ true
marked zero k inside = absurd (omega (arith, inside))
marked (suc n) zero inside = refl
marked (suc n) (suc k) inside = marked n k (omega (arith, inside))

-- the levels of the graph of waits
laws_of_levels : (plan : Plan) → HasValidBodies plan → IsSteady plan → wait_levels plan ≡ levels_of_waits plan → WaitLaws plan
laws_of_levels plan ordered steady is = record {
  reaches = λ k inside. let sinks = edge k (pool_node plan (class_at plan k).pool) (subst (In (pool_node plan (class_at plan k).pool)) (sym (class_successors plan marks k inside)) here) in omega (arith, sinks);
  falls = λ k j gets.
      let sinks = edge k j (subst (In j) (sym (class_successors plan marks k (getter_inside plan k j gets))) (there (got_in (class_at plan k).body j gets))) in
      omega (arith, sinks);
  below = λ k j may_lose gets.
      let p = (class_at plan k).pool in
      let inside = getter_inside plan k j gets in
      let wait = In-pool_waits plan marks p j (record { class = k; of_pool = refl; marked = marked (length plan.classes) k inside; may_lose = may_lose; gets = gets }) in
      let sinks = edge (pool_node plan p) j (subst (In j) (sym (pool_successors plan marks p (ordered.pools k inside))) wait) in
      omega (arith, sinks);
}
  where
    marks : List Bool
    marks = all_marks plan

    edge : (x y : ℕ) → In y (successors (wait_graph plan marks) x) → at_node plan y + 1 ≤ at_node plan x
    edge x y at =
        subst (λ (levels : List ℕ). get_or levels y 0 + 1 ≤ get_or levels x 0) (sym is)
        (levels_sink (wait_graph plan marks) (wait_closed plan marks ordered)
        (no_wait_circle plan marks ordered (λ k j is_marked may_lose gets. steady.used k j may_lose gets) steady.all_got.no_circle steady.none_waits) x y at)

-- without a pool whose core threads may time out
laws_of_zeros : (plan : Plan) → has_core_timeouts plan ≡ false → HasValidBodies plan → wait_levels plan ≡ replicate (length plan.classes + length plan.pools) 0 → WaitLaws plan
laws_of_zeros plan none ordered is = record {
  reaches = λ k inside. omega (arith, none_at (pool_node plan (class_at plan k).pool));
  falls = λ k j gets. omega (arith, none_at j);
  below = λ k j may_lose gets.
      let p = (class_at plan k).pool in
      let inside = ordered.pools k (getter_inside plan k j gets) in
      absurd (false≢true (sym none ∙ list_any_at_In (λ (pool : Pool). pool.core_timeout) (In-get_or plan.pools p no_pool inside) may_lose));
}
  where
    none_at : (x : ℕ) → at_node plan x ≡ 0
    none_at x = ap (λ (levels : List ℕ). get_or levels x 0) is ∙ zero_at (length plan.classes + length plan.pools) x

wait_laws : (plan : Plan) → HasValidBodies plan → IsSteady plan → WaitLaws plan
wait_laws plan ordered steady = of_case (has_core_timeouts plan) refl
  where
    of_case : (has : Bool) → has_core_timeouts plan ≡ has → WaitLaws plan
    of_case true is = laws_of_levels plan ordered steady (ap (λ (has : Bool). cond has (levels_of_waits plan) (replicate (length plan.classes + length plan.pools) 0)) is)
    of_case false is = laws_of_zeros plan is ordered (ap (λ (has : Bool). cond has (levels_of_waits plan) (replicate (length plan.classes + length plan.pools) 0)) is)

-- ---- lengths and limits

pub length-wait_levels : (plan : Plan) → length (wait_levels plan) ≡ length plan.classes + length plan.pools
length-wait_levels plan = of_case (has_core_timeouts plan)
  where
    of_case : (has : Bool) → length (cond has (levels_of_waits plan) (replicate (length plan.classes + length plan.pools) 0)) ≡ length plan.classes + length plan.pools
    of_case true = length-levels_of (wait_graph plan (all_marks plan)) ∙ length-waits plan (all_marks plan)
    of_case false = length-zeros (length plan.classes + length plan.pools)

pub wait_level-le : (plan : Plan) (x : ℕ) → get_or (wait_levels plan) x 0 ≤ length plan.classes + length plan.pools
wait_level-le plan x = of_case (has_core_timeouts plan)
  where
    of_case : (has : Bool) → get_or (cond has (levels_of_waits plan) (replicate (length plan.classes + length plan.pools) 0)) x 0 ≤ length plan.classes + length plan.pools
    of_case true = omega (arith, level-le (wait_graph plan (all_marks plan)) (length (wait_graph plan (all_marks plan))) x, length-waits plan (all_marks plan))
    of_case false = omega (arith, zero_at (length plan.classes + length plan.pools) x)

-- ---- ranks and reaches

pub rank_is : (plan : Plan) (p : ℕ) → get_or (steady_ranks plan).pools p 0 ≡ at_node plan (pool_node plan p)
rank_is plan p = get_or-drop (length plan.classes) (wait_levels plan) p 0

pub reach_is : (plan : Plan) (k : ℕ) → k < length plan.classes → get_or (steady_ranks plan).reach k 0 ≡ at_node plan k
reach_is plan k inside = get_or-take (length plan.classes) (wait_levels plan) k 0 inside

-- the reach of a class that is got is at most that of the class that gets it
pub reach_falls : (plan : Plan) → HasValidBodies plan → IsSteady plan → (k j : ℕ) → j < length plan.classes → GetsClass (class_at plan k).body j → get_or (steady_ranks plan).reach j 0 ≤ get_or (steady_ranks plan).reach k 0
reach_falls plan ordered steady k j inside gets =
    omega (arith, reach_is plan j inside, reach_is plan k (getter_inside plan k j gets), (wait_laws plan ordered steady).falls k j gets)

pub rank_reached : (plan : Plan) → HasValidBodies plan → IsSteady plan → (k : ℕ) → k < length plan.classes → get_or (steady_ranks plan).pools (class_at plan k).pool 0 ≤ get_or (steady_ranks plan).reach k 0
rank_reached plan ordered steady k inside = omega (arith, rank_is plan (class_at plan k).pool, reach_is plan k inside, (wait_laws plan ordered steady).reaches k inside)

-- the reach of a class that is got is below the rank of the pool, if core threads may time out
pub reach_below : (plan : Plan) → HasValidBodies plan → IsSteady plan → (k j : ℕ) → j < length plan.classes → MayLoseThreads plan k → GetsClass (class_at plan k).body j
    → get_or (steady_ranks plan).reach j 0 < get_or (steady_ranks plan).pools (class_at plan k).pool 0
reach_below plan ordered steady k j inside may_lose gets = omega (arith, reach_is plan j inside, rank_is plan (class_at plan k).pool, (wait_laws plan ordered steady).below k j may_lose gets)
