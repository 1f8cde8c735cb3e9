use Rattle.job_bodies.specs.Plan.{pool_at}
use Rattle.cert_check.specs.Text.{pool_line_text}
use Rattle.cert_check.proofs.AppendedTexts.{appended_more}
use Rattle.cert_check.proofs.text.push_pool_lines.Goals as goal

pub loop-pool-preserved : goal.loop-pool-preserved
loop-pool-preserved c =
    appended_more (λ p line. pool_line_text (pool_at c.args.plan.now p).name (pool_at c.args.plan.now p).unbounded line) c.args.lines.now c.loop-pool.pool _ _ _ _ c.loop-pool-test.true c.in_ok-push_pool_line.ensures c.loop-pool.invariant
