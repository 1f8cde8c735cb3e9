use Rattle.std.proofs.Common.{ap, ◌∙◌, get_or, refl}
use Rattle.serde_json.specs.Data.{array}
use Rattle.serde_json.specs.View.{items_of}
use Rattle.job_bodies.specs.declared.action.Action.TheVariants.{Work}
use Rattle.report.specs.JsonPlan.{action_entry}
use Rattle.report.proofs.JsonLists.{value_more, values_all}
use Rattle.report.proofs.json_bodies.body_value.Goals as goal

pub loop-number-preserved : goal.loop-number-preserved
loop-number-preserved c =
    value_more (action_entry c.args.plan.now c.args.places.now c.args.index c.args.body.now) c.args.body.now c.loop-number.number (Work 0) (get_or c.args.body.now c.loop-number.number (Work 0)) c.loop-number.values.items c.push_value.new.values.items c.action_entry-value.result _ c.loop-number-test.true refl c.in_ok-push_value.ensures c.action_entry-value.ensures c.loop-number.invariant

pub returns : goal.returns
returns c =
    c.from.ensures ∙ ap (λ ds. array (items_of ds)) (values_all (action_entry c.args.plan.now c.args.places.now c.args.index c.args.body.now) c.args.body.now c.loop-number.number _ _ c.loop-number-test.false c.loop-number.invariant)
