use Rattle.std.proofs.Common.{get_or, refl}
use Rattle.report.specs.SafeText.{worker_part}
use Rattle.report.proofs.Rows.{part_more}
use Rattle.report.proofs.safe_bound.push_workers.Goals as goal

pub loop-pool-preserved : goal.loop-pool-preserved
loop-pool-preserved c =
    let shares = c.args.shares.now in
    let pool = c.loop-pool.pool in
    rw (c.in_ok-push_share.ensures, c.pool_name.ensures) (part_more (worker_part c.args.plan.now) shares pool 0 (get_or shares pool 0) _ _ c.loop-pool-test.true refl c.loop-pool.invariant)
