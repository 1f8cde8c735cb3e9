use Rattle.std.proofs.Common.{◌≡◌, ◌≤◌, ◌<◌, ◌+◌, ◌*◌, ℕ, length, get_or, slice_get, Some, ap, arith}
use Rattle.std.specs.Prelude.{slice_index_or}
use Rattle.std.proofs.lemmas.Nat.{mul-le}
use Rattle.support.proofs.Loops.{at_index}
use Rattle.job_bodies.specs.declared.limits.TheConstants.{MAX_POOLS, MAX_THREADS, MAX_WEIGHT}
use Rattle.weights.specs.Vector.{workers_weight}
use Rattle.weights.proofs.Fitting.{fits, max_at}
use Rattle.weights.proofs.Loops.{sum_more}
use Rattle.weights.proofs.total.workers_total.Goals as goal

pub overflow_mul-total : goal.overflow_mul-total
overflow_mul-total c =
    let plan = c.args.plan.now in
    let well = c.pools-pool-items.ensures.well_formed in
    let here : slice_get plan.pools c.loop-number.number ≡ Some c.pool-item.result = rw (← c.pools-pool-items.ensures.value) (at_index _ _ _ c.loop-number-test.true c.pool-item.is) in
    let same : c.pool.inside.max ≡ c.pool-item.result.max = ap (λ (x : _). x.max) c.pool.view_is in
    let many : c.pool.inside.max ≤ MAX_THREADS = rw same (max_at plan c.loop-number.number c.pool-item.result well here) in
    let weight : c.workers_weight.result ≤ MAX_WEIGHT = rw c.workers_weight.ensures ((fits c.args.plan.now c.args.vector.now c.requires).small_worker c.loop-number.number) in
    let term : c.workers_weight.result * c.pool.inside.max ≤ MAX_WEIGHT * MAX_THREADS = mul-le c.workers_weight.result c.pool.inside.max MAX_WEIGHT MAX_THREADS weight many in
    omega arith

pub overflow_add-total : goal.overflow_add-total
overflow_add-total c =
    let plan = c.args.plan.now in
    let well = c.pools-pool-items.ensures.well_formed in
    let here : slice_get plan.pools c.loop-number.number ≡ Some c.pool-item.result = rw (← c.pools-pool-items.ensures.value) (at_index _ _ _ c.loop-number-test.true c.pool-item.is) in
    let same : c.pool.inside.max ≡ c.pool-item.result.max = ap (λ (x : _). x.max) c.pool.view_is in
    let many : c.pool.inside.max ≤ MAX_THREADS = rw same (max_at plan c.loop-number.number c.pool-item.result well here) in
    let weight : c.workers_weight.result ≤ MAX_WEIGHT = rw c.workers_weight.ensures ((fits c.args.plan.now c.args.vector.now c.requires).small_worker c.loop-number.number) in
    let term : c.workers_weight.result * c.pool.inside.max ≤ MAX_WEIGHT * MAX_THREADS = mul-le c.workers_weight.result c.pool.inside.max MAX_WEIGHT MAX_THREADS weight many in
    let early : c.loop-number.number < length plan.pools = rw (← c.pools-pool-items.ensures.value) c.loop-number-test.true in
    omega (arith, well.few_pools, c.loop-number.invariant.bound)

pub loop-number-preserved : goal.loop-number-preserved
loop-number-preserved c =
    let plan = c.args.plan.now in
    let well = c.pools-pool-items.ensures.well_formed in
    let here : slice_get plan.pools c.loop-number.number ≡ Some c.pool-item.result = rw (← c.pools-pool-items.ensures.value) (at_index _ _ _ c.loop-number-test.true c.pool-item.is) in
    let same : c.pool.inside.max ≡ c.pool-item.result.max = ap (λ (x : _). x.max) c.pool.view_is in
    let many : c.pool.inside.max ≤ MAX_THREADS = rw same (max_at plan c.loop-number.number c.pool-item.result well here) in
    let weight : c.workers_weight.result ≤ MAX_WEIGHT = rw c.workers_weight.ensures ((fits c.args.plan.now c.args.vector.now c.requires).small_worker c.loop-number.number) in
    let term : c.workers_weight.result * c.pool.inside.max ≤ MAX_WEIGHT * MAX_THREADS = mul-le c.workers_weight.result c.pool.inside.max MAX_WEIGHT MAX_THREADS weight many in
    let early : c.loop-number.number < length plan.pools = rw (← c.pools-pool-items.ensures.value) c.loop-number-test.true in
    let x = c.pool-item.result in
    let there : x ≡ get_or plan.pools c.loop-number.number x = rw (← c.pools-pool-items.ensures.value) c.pool-item.is in
    record {
      value = rw (c.workers_weight.ensures, same) (sum_more (λ entry. workers_weight c.args.vector.now entry.0 * entry.1.max) plan.pools c.loop-number.number x c.loop-number.total _ early there c.loop-number.invariant.value);
      bound = omega (arith, c.loop-number.invariant.bound);
    }
