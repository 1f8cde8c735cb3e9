use Rattle.std.proofs.Common.{◌≡◌, ◌<◌, ℕ, length, get_or}
use Rattle.job_bodies.specs.Plan.{Pool}
use Rattle.diagnostics.specs.Lints.{lints_of_pool}
use Rattle.diagnostics.proofs.InOrder.{one_more_read}
use Rattle.diagnostics.proofs.lints.push_pools.Goals as goal

pub loop-number-preserved : goal.loop-number-preserved
loop-number-preserved c =
    let plan = c.args.plan.now in
    let x = c.pool-item.result in
    let early : c.loop-number.number < length plan.pools = rw (← c.pools-pool-items.ensures.value) c.loop-number-test.true in
    let there : x ≡ get_or plan.pools c.loop-number.number x = rw (← c.pools-pool-items.ensures.value) c.pool-item.is in
    rw c.in_ok-push_pool.ensures (one_more_read (λ (entry : ℕ × Pool). lints_of_pool plan c.args.needed.now c.args.marks.now entry.0 entry.1) plan.pools c.loop-number.number x _ _ early there c.loop-number.invariant)
