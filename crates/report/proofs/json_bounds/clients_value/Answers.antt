use Rattle.std.proofs.Common.{get_or, refl, ap, ◌∙◌}
use Rattle.serde_json.specs.Data.{array}
use Rattle.serde_json.specs.View.{items_of}
use Rattle.report.specs.JsonPools.{client_share}
use Rattle.report.proofs.JsonLists.{parts_all}
use Rattle.report.proofs.Rows.{part_more}
use Rattle.report.proofs.json_bounds.clients_value.Goals as goal

pub loop-kind-preserved : goal.loop-kind-preserved
loop-kind-preserved c =
    let shares = c.args.shares.now in
    let kind = c.loop-kind.kind in
    rw (c.in_ok-push_share.ensures, c.client_name.ensures) (part_more (client_share c.args.plan.now) shares kind 0 (get_or shares kind 0) _ _ c.loop-kind-test.true refl c.loop-kind.invariant)

pub returns : goal.returns
returns c =
    c.from.ensures ∙ ap (λ ds. array (items_of ds)) (parts_all (client_share c.args.plan.now) c.args.shares.now c.loop-kind.kind _ _ c.loop-kind-test.false c.loop-kind.invariant)
