use Rattle.std.proofs.Common.{◌≡◌, ◌≤◌, ◌<◌, ◌*◌, length, get_or, slice_get, Some, ap, arith}
use Rattle.std.proofs.lemmas.Nat.{mul-le}
use Rattle.support.proofs.Loops.{at_index}
use Rattle.job_bodies.specs.declared.limits.TheConstants.{MAX_THREADS, MAX_WEIGHT}
use Rattle.weights.specs.Vector.{workers_weight}
use Rattle.weights.proofs.Fitting.{fits, max_at}
use Rattle.report.proofs.ShareSums.{given_more}
use Rattle.report.proofs.shares.worker_shares.Goals as goal

pub overflow_mul-share : goal.overflow_mul-share
overflow_mul-share c =
    let plan = c.args.plan.now in
    let well = c.pools-pool-items.ensures.well_formed in
    let here : slice_get plan.pools c.loop-number.number ≡ Some c.pool-item.result = rw (← c.pools-pool-items.ensures.value) (at_index _ _ _ c.loop-number-test.true c.pool-item.is) in
    let same : c.pool.inside.max ≡ c.pool-item.result.max = ap (λ (x : _). x.max) c.pool.view_is in
    let many : c.pool.inside.max ≤ MAX_THREADS = rw same (max_at plan c.loop-number.number c.pool-item.result well here) in
    let weight : c.workers_weight.result ≤ MAX_WEIGHT = rw c.workers_weight.ensures ((fits c.args.plan.now c.args.vector.now c.requires).small_worker c.loop-number.number) in
    let term : c.workers_weight.result * c.pool.inside.max ≤ MAX_WEIGHT * MAX_THREADS = mul-le c.workers_weight.result c.pool.inside.max MAX_WEIGHT MAX_THREADS weight many in
    omega arith

pub loop-number-preserved : goal.loop-number-preserved
loop-number-preserved c =
    let plan = c.args.plan.now in
    let well = c.pools-pool-items.ensures.well_formed in
    let here : slice_get plan.pools c.loop-number.number ≡ Some c.pool-item.result = rw (← c.pools-pool-items.ensures.value) (at_index _ _ _ c.loop-number-test.true c.pool-item.is) in
    let same : c.pool.inside.max ≡ c.pool-item.result.max = ap (λ (x : _). x.max) c.pool.view_is in
    let many : c.pool.inside.max ≤ MAX_THREADS = rw same (max_at plan c.loop-number.number c.pool-item.result well here) in
    let early : c.loop-number.number < length plan.pools = rw (← c.pools-pool-items.ensures.value) c.loop-number-test.true in
    let x = c.pool-item.result in
    let there : x ≡ get_or plan.pools c.loop-number.number x = rw (← c.pools-pool-items.ensures.value) c.pool-item.is in
    rw (c.in_ok-push.ensures.items, c.workers_weight.ensures, same) (given_more (λ entry. workers_weight c.args.vector.now entry.0 * entry.1.max) plan.pools c.loop-number.number x _ _ early there c.loop-number.invariant)
