-- The graph so far, and the remaining pools, are the whole graph.
use Rattle.std.proofs.Common.{◌≡◌, ◌++◌, ℕ, map, drop}
use Rattle.std.specs.List.{enumerate_from}
use Rattle.job_bodies.specs.Plan.{Pool}
use Rattle.size_search.specs.JobGraphs.{pool_waits, pool_nodes}
use Rattle.size_search.proofs.job_graphs.push_pools.Given as goal

abbrev pub invariant-loop-number : goal.invariant-loop-number
invariant-loop-number l = l.graph ++ map (λ (entry : ℕ × Pool). pool_waits l.plan l.marks entry.0 entry.1) (enumerate_from l.number (drop l.number l.plan.pools)) ≡ l.initial.graph ++ pool_nodes l.plan l.marks
