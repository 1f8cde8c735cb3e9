use Rattle.std.proofs.Common.{◌≡◌, ◌∙◌, List, ap}
use Rattle.job_bodies.specs.declared.action.Action.{Action}
use Rattle.weights.proofs.Fitting.{client_fits}
use Rattle.weights.proofs.rows.visit_client_rows.Goals as goal

pub visit_body_rows-requires-clause-weighed : goal.visit_body_rows-requires-clause-weighed
visit_body_rows-requires-clause-weighed g c =
    let f = client_fits c.args.plan.now c.args.vector.now c.args.number c.args.client.now c.requires.well_formed c.requires.fits c.requires.client in
    let body : c.deref.result.now ≡ c.args.client.now.body = c.deref.ensures.value ∙ ap (λ (k : _). k.body) c.client.view_is in
    rw (body, c.client_weights.ensures) f.weighed
