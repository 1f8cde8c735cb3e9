use Rattle.std.proofs.Common.{rules, ◌≡◌, ◌<◌, ◌≤◌, ◌+◌, List, length, get_or, ap₂, subst}
use Rattle.std.specs.Vec.{vec_len}
use Rattle.job_bodies.specs.declared.limits.TheConstants.{MAX_THREADS}
use Rattle.job_bodies.specs.Plan.{Pool}
use Rattle.locked_runner.proofs.CarriedPools.{few_carriers, lists_grow}
use Rattle.locked_runner.proofs.owner.lists_of.Goals as goal

pub overflow_add-len : goal.overflow_add-len
overflow_add-len c =
    let few = few_carriers c.args.plan.now c.pools-pool-items.result.now c.loop-number.number c.pool-item.result c.pools-pool-items.ensures.well_formed c.pools-pool-items.ensures.value c.loop-number-test.true c.pool-item.is in
    let threads : c.carriers-threads.result ≤ MAX_THREADS = rw c.carriers-threads.ensures few in
    search (rules, threads)

pub loop-number-preserved : goal.loop-number-preserved
loop-number-preserved c =
    let same = c.pools-pool-items.ensures.value in
    let inside = subst (λ (pools : List Pool). c.loop-number.number < length pools) same c.loop-number-test.true in
    let item = subst (λ (pools : List Pool). c.pool-item.result ≡ get_or pools c.loop-number.number c.pool-item.result) same c.pool-item.is in
    let long : vec_len c.loop-number.owners ≡ length c.loop-number.owners.items = search rules in
    let wanted = ap₂ (λ m n. m + n) c.len.ensures c.carriers-threads.ensures in
    lists_grow c.args.plan.now.pools c.loop-number.number (vec_len c.loop-number.owners) (c.len.result + c.carriers-threads.result) c.pool-item.result c.loop-number.owners.items c.resize.new.self.items _ inside item long wanted c.in_ok-resize.ensures.items c.loop-number.invariant
