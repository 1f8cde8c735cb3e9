use Rattle.std.proofs.Common.{ap, ◌∙◌}
use Rattle.serde_json.specs.Data.{array}
use Rattle.serde_json.specs.View.{items_of}
use Rattle.report.specs.JsonPlan.{class_entry}
use Rattle.report.proofs.JsonLists.{value_more, values_all}
use Rattle.report.proofs.json_plan.classes_value.Goals as goal

pub loop-number-preserved : goal.loop-number-preserved
loop-number-preserved c =
    value_more (class_entry c.args.plan.now c.args.places.now) c.args.classes.now c.loop-number.number c.index-classes-number.result c.index-classes-number.result c.loop-number.values.items c.push_value.new.values.items c.class_entry.result _ c.loop-number-test.true c.index-classes-number.is c.in_ok-push_value.ensures c.class_entry.ensures c.loop-number.invariant

pub returns : goal.returns
returns c =
    c.from.ensures ∙ ap (λ ds. array (items_of ds)) (values_all (class_entry c.args.plan.now c.args.places.now) c.args.classes.now c.loop-number.number _ _ c.loop-number-test.false c.loop-number.invariant)
