use Rattle.std.proofs.Common.{ap, ◌∙◌}
use Rattle.serde_json.specs.Data.{array}
use Rattle.serde_json.specs.View.{items_of}
use Rattle.report.specs.JsonPlan.{client_entry}
use Rattle.report.proofs.JsonLists.{value_more, values_all}
use Rattle.report.proofs.json_plan.clients_value.Goals as goal

pub loop-number-preserved : goal.loop-number-preserved
loop-number-preserved c =
    value_more (client_entry c.args.plan.now c.args.places.now) c.args.clients.now c.loop-number.number c.index-clients-number.result c.index-clients-number.result c.loop-number.values.items c.push_value.new.values.items c.client_entry.result _ c.loop-number-test.true c.index-clients-number.is c.in_ok-push_value.ensures c.client_entry.ensures c.loop-number.invariant

pub returns : goal.returns
returns c =
    c.from.ensures ∙ ap (λ ds. array (items_of ds)) (values_all (client_entry c.args.plan.now c.args.places.now) c.args.clients.now c.loop-number.number _ _ c.loop-number-test.false c.loop-number.invariant)
