use Rattle.std.proofs.Common.{◌≡◌, ◌<◌, length, get_or}
use Rattle.report.specs.SafeText.{pool_lines}
use Rattle.report.proofs.Rows.{part_more}
use Rattle.report.proofs.safe.push_pools.Goals as goal

pub loop-number-preserved : goal.loop-number-preserved
loop-number-preserved c =
    let plan = c.args.plan.now in
    let early : c.loop-number.number < length plan.pools = rw (← c.pools-pool-items.ensures.value) c.loop-number-test.true in
    let x = c.pool-item.result in
    let there : x ≡ get_or plan.pools c.loop-number.number x = rw (← c.pools-pool-items.ensures.value) c.pool-item.is in
    rw c.in_ok-push_pool.ensures (part_more (pool_lines plan c.args.cert.now c.args.rejections.now) plan.pools c.loop-number.number x x _ _ early there c.loop-number.invariant)
