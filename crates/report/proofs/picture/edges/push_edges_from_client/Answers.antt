use Rattle.std.proofs.Common.{◌≡◌, ◌<◌, length, ap, ◌∙◌}
use Rattle.job_bodies.specs.Plan.{Client}
use Rattle.report.specs.Picture.{client_edges_to}
use Rattle.report.proofs.Rows.{later_more}
use Rattle.report.proofs.picture.edges.push_edges_from_client.Goals as goal

pub loop-class-preserved : goal.loop-class-preserved
loop-class-preserved c =
    let n = length c.args.plan.now.classes in
    let inside : c.loop-class.class < n = rw (← c.classes-class-end.ensures.value) c.loop-class-test.true in
    let body : c.deref.result.now ≡ c.args.client.now.body = c.deref.ensures.value ∙ ap (λ (it : Client). it.body) c.client.view_is in
    rw (c.in_ok-push_client_edges_to.ensures, body) (later_more (client_edges_to c.args.number c.args.client.now.body) n c.loop-class.class _ _ inside c.loop-class.invariant)
