-- The loop of `visit_worker_rows`: the rows of the pools before the current one were visited.
use Rattle.std.proofs.Common.{[], ◌∷◌}
use Rattle.weights.specs.declared.row.Rule.TheVariants.{L1}
use Rattle.weights.specs.declared.row.Place.TheVariants.{Worker}
use Rattle.weights.specs.Row.{row}
use Rattle.weights.specs.Vector.{workers_weight}
use Rattle.weights.proofs.Walks.{HasVisited}
use Rattle.weights.proofs.lifetime.visit_worker_rows.Given as goal

abbrev pub invariant-loop-pool : goal.invariant-loop-pool
invariant-loop-pool g l =
    HasVisited g.V.RowVisitor.HasSeen l.initial.visitor l.visitor (λ pool _. row L1 (Worker pool) (workers_weight l.vector pool) 0 ∷ []) l.plan.pools l.pool
