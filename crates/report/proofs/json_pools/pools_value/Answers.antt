use Rattle.std.proofs.Common.{◌≡◌, ◌≤◌, ◌<◌, length, get_or, ap, ◌∙◌}
use Rattle.serde_json.specs.Data.{array}
use Rattle.serde_json.specs.View.{items_of}
use Rattle.report.specs.JsonPools.{pool_entry}
use Rattle.report.proofs.JsonLists.{value_more, values_all}
use Rattle.report.proofs.json_pools.pools_value.Goals as goal

pub loop-number-preserved : goal.loop-number-preserved
loop-number-preserved c =
    let plan = c.args.plan.now in
    let early : c.loop-number.number < length plan.pools = rw (← c.pools-pool-items.ensures.value) c.loop-number-test.true in
    let x = c.pool-item.result in
    let there : x ≡ get_or plan.pools c.loop-number.number x = rw (← c.pools-pool-items.ensures.value) c.pool-item.is in
    value_more (pool_entry plan c.args.parts.now c.args.rejections.now) plan.pools c.loop-number.number x x c.loop-number.values.items c.push_value.new.values.items c.pool_entry-value.result _ early there c.in_ok-push_value.ensures c.pool_entry-value.ensures c.loop-number.invariant

pub returns : goal.returns
returns c =
    let plan = c.args.plan.now in
    let past : length plan.pools ≤ c.loop-number.number = rw (← c.pools-pool-items.ensures.value) c.loop-number-test.false in
    c.from.ensures ∙ ap (λ ds. array (items_of ds)) (values_all (pool_entry plan c.args.parts.now c.args.rejections.now) plan.pools c.loop-number.number _ _ past c.loop-number.invariant)
