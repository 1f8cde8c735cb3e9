use Rattle.std.proofs.Common.{arith, sym, subst}
use Rattle.std.proofs.lemmas.Grind.{common_steps}
use Rattle.job_bodies.specs.Plan.{Client}
use Rattle.job_bodies.specs.ValidBody.{IsValidBody}
use Rattle.job_bodies.proofs.Bodies.{ordered}
use Rattle.size_search.proofs.RowSteps.{client_here}
use Rattle.size_search.proofs.rows.clients_of.Goals as goal

pub client_row-requires-clause-valid : goal.client_row-requires-clause-valid
client_row-requires-clause-valid c =
    let plan = c.args.plan.now in
    let number = c.loop-client.client-index in
    let client = client_here plan c.clients-client-items.result.now number c.client-item.result c.clients-client-items.ensures.value c.loop-client-test.true c.client-item.is in
    subst (λ (any : Client). IsValidBody plan any.body) (sym client) ((ordered plan c.clients-client-items.ensures.well_formed).clients number)

pub loop-client-preserved : goal.loop-client-preserved
loop-client-preserved c = grind (arith, common_steps)
