use Rattle.std.proofs.Common.{get_or, refl, ap, ◌∙◌}
use Rattle.serde_json.specs.Data.{array}
use Rattle.serde_json.specs.View.{items_of}
use Rattle.report.specs.JsonPools.{thread_share}
use Rattle.report.proofs.JsonLists.{parts_all}
use Rattle.report.proofs.Rows.{part_more}
use Rattle.report.proofs.json_bounds.threads_value.Goals as goal

pub loop-pool-preserved : goal.loop-pool-preserved
loop-pool-preserved c =
    let shares = c.args.shares.now in
    let pool = c.loop-pool.pool in
    rw (c.in_ok-push_share.ensures, c.pool_name.ensures) (part_more (thread_share c.args.plan.now) shares pool 0 (get_or shares pool 0) _ _ c.loop-pool-test.true refl c.loop-pool.invariant)

pub returns : goal.returns
returns c =
    c.from.ensures ∙ ap (λ ds. array (items_of ds)) (parts_all (thread_share c.args.plan.now) c.args.shares.now c.loop-pool.pool _ _ c.loop-pool-test.false c.loop-pool.invariant)
