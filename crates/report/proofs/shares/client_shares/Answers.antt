use Rattle.std.proofs.Common.{◌≡◌, ◌≤◌, ◌<◌, ◌*◌, length, get_or, slice_get, Some, ap, arith}
use Rattle.std.specs.Prelude.{slice_index_or}
use Rattle.std.proofs.lemmas.Nat.{mul-le}
use Rattle.support.proofs.Loops.{at_index}
use Rattle.job_bodies.specs.declared.limits.TheConstants.{MAX_SIZE, MAX_WEIGHT}
use Rattle.weights.specs.Vector.{client_weight}
use Rattle.weights.proofs.Fitting.{fits, count_at}
use Rattle.report.proofs.ShareSums.{given_more}
use Rattle.report.proofs.shares.client_shares.Goals as goal

pub bounds-client_weights-0 : goal.bounds-client_weights-0
bounds-client_weights-0 c =
    let plan = c.args.plan.now in
    let inside : c.loop-number.number < length plan.clients = rw (← c.clients-client-items.ensures.value) c.loop-number-test.true in
    let long = (fits plan c.args.vector.now c.requires).client c.loop-number.number inside in
    rw c.client_weights.ensures (omega arith)

pub overflow_mul-share : goal.overflow_mul-share
overflow_mul-share c =
    let plan = c.args.plan.now in
    let well = c.clients-client-items.ensures.well_formed in
    let here : slice_get plan.clients c.loop-number.number ≡ Some c.client-item.result = rw (← c.clients-client-items.ensures.value) (at_index _ _ _ c.loop-number-test.true c.client-item.is) in
    let same : c.client.inside.count ≡ c.client-item.result.count = ap (λ (x : _). x.count) c.client.view_is in
    let many : c.client.inside.count ≤ MAX_SIZE = rw same (count_at plan c.loop-number.number c.client-item.result well here) in
    let weight : slice_index_or c.client_weights.result.now 0 0 ≤ MAX_WEIGHT = rw c.client_weights.ensures ((fits c.args.plan.now c.args.vector.now c.requires).small_client c.loop-number.number 0) in
    let term : c.client.inside.count * slice_index_or c.client_weights.result.now 0 0 ≤ MAX_SIZE * MAX_WEIGHT = mul-le c.client.inside.count (slice_index_or c.client_weights.result.now 0 0) MAX_SIZE MAX_WEIGHT many weight in
    omega arith

pub loop-number-preserved : goal.loop-number-preserved
loop-number-preserved c =
    let plan = c.args.plan.now in
    let well = c.clients-client-items.ensures.well_formed in
    let here : slice_get plan.clients c.loop-number.number ≡ Some c.client-item.result = rw (← c.clients-client-items.ensures.value) (at_index _ _ _ c.loop-number-test.true c.client-item.is) in
    let same : c.client.inside.count ≡ c.client-item.result.count = ap (λ (x : _). x.count) c.client.view_is in
    let many : c.client.inside.count ≤ MAX_SIZE = rw same (count_at plan c.loop-number.number c.client-item.result well here) in
    let early : c.loop-number.number < length plan.clients = rw (← c.clients-client-items.ensures.value) c.loop-number-test.true in
    let x = c.client-item.result in
    let there : x ≡ get_or plan.clients c.loop-number.number x = rw (← c.clients-client-items.ensures.value) c.client-item.is in
    rw (c.in_ok-push.ensures.items, c.client_weights.ensures, same) (given_more (λ entry. entry.1.count * client_weight c.args.vector.now entry.0 0) plan.clients c.loop-number.number x _ _ early there c.loop-number.invariant)
