use Rattle.std.proofs.Common.{ap, ◌∙◌}
use Rattle.serde_json.specs.Data.{array}
use Rattle.serde_json.specs.View.{items_of}
use Rattle.report.specs.JsonSizes.{size_entry}
use Rattle.report.proofs.JsonLists.{value_more, values_all}
use Rattle.report.proofs.json_sizes.pools_value.Goals as goal

pub loop-number-preserved : goal.loop-number-preserved
loop-number-preserved c =
    let x = c.index-fitted-number.result in
    value_more (size_entry c.args.places.now c.args.plan.now) c.args.fitted.now c.loop-number.number x x c.loop-number.values.items c.push_value.new.values.items c.size_entry.result _ c.loop-number-test.true c.index-fitted-number.is c.in_ok-push_value.ensures c.size_entry.ensures c.loop-number.invariant

pub returns : goal.returns
returns c =
    c.from.ensures ∙ ap (λ ds. array (items_of ds)) (values_all (size_entry c.args.places.now c.args.plan.now) c.args.fitted.now c.loop-number.number _ _ c.loop-number-test.false c.loop-number.invariant)
