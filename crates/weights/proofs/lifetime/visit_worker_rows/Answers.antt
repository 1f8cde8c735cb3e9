use Rattle.std.proofs.Common.{◌≡◌, ◌<◌, [], ◌∷◌, ℕ, length, get_or}
use Rattle.std.specs.List.{enumerate_from}
use Rattle.std.proofs.lemmas.Option.{slice_get-get_or}
use Rattle.job_bodies.specs.Plan.{Pool, no_pool}
use Rattle.weights.specs.declared.row.Row.{Row}
use Rattle.weights.specs.declared.row.Rule.TheVariants.{L1}
use Rattle.weights.specs.declared.row.Place.TheVariants.{Worker}
use Rattle.weights.specs.Row.{row}
use Rattle.weights.specs.Visits.{Visits}
use Rattle.weights.specs.Vector.{workers_weight}
use Rattle.weights.proofs.Walks.{walk_continues, walk_ends, visits_same, one_each}
use Rattle.weights.proofs.lifetime.visit_worker_rows.Goals as goal

pub loop-pool-preserved : goal.loop-pool-preserved
loop-pool-preserved g c =
    let has_seen = g.V.RowVisitor.HasSeen in
    let pools = c.args.plan.now.pools in
    let i = c.loop-pool.pool in
    let inside : i < length pools = rw (← c.pools-pool-end.ensures.value) c.loop-pool-test.true in
    let rows_at = λ (p : ℕ) (_ : Pool). row L1 (Worker p) (workers_weight c.args.vector.now p) 0 ∷ [] in
    let taken : Visits has_seen c.loop-pool.visitor c.visit.new.self (row L1 (Worker i) (workers_weight c.args.vector.now i) 0 ∷ []) = rw (← c.workers_weight.ensures, ← c.new.ensures) c.visit.ensures in
    walk_continues has_seen _ _ _ rows_at pools i (get_or pools i no_pool) (slice_get-get_or pools i no_pool inside) taken c.loop-pool.invariant

pub returns : goal.returns
returns g c =
    let has_seen = g.V.RowVisitor.HasSeen in
    let rows_at = λ (p : ℕ) (_ : Pool). row L1 (Worker p) (workers_weight c.args.vector.now p) 0 ∷ [] in
    let all = walk_ends has_seen _ _ rows_at c.args.plan.now.pools c.loop-pool.pool (rw (← c.pools-pool-end.ensures.value) c.loop-pool-test.false) c.loop-pool.invariant in
    visits_same has_seen _ _ _ _ (one_each (λ entry. row L1 (Worker entry.0) (workers_weight c.args.vector.now entry.0) 0) (enumerate_from 0 c.args.plan.now.pools)) all
