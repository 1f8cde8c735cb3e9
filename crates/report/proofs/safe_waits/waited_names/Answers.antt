use Rattle.std.proofs.Common.{◌≡◌, ◌<◌, length, get_or}
use Rattle.report.specs.SafeText.{waited_name}
use Rattle.report.proofs.Rows.{part_more}
use Rattle.report.proofs.safe_waits.waited_names.Goals as goal

pub loop-other-preserved : goal.loop-other-preserved
loop-other-preserved c =
    let plan = c.args.plan.now in
    let early : c.loop-other.other < length plan.pools = rw (← c.pools-pool-items.ensures.value) c.loop-other-test.true in
    let x = c.pool-item.result in
    let there : x ≡ get_or plan.pools c.loop-other.other x = rw (← c.pools-pool-items.ensures.value) c.pool-item.is in
    rw c.in_ok-push_if_waited.ensures (part_more (waited_name plan c.args.number) plan.pools c.loop-other.other x x _ _ early there c.loop-other.invariant)
