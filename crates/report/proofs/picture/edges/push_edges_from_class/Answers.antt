use Rattle.std.proofs.Common.{◌≡◌, ◌<◌, length, ap, ◌∙◌}
use Rattle.std.specs.Prelude.{option_map}
use Rattle.job_bodies.specs.Plan.{Class}
use Rattle.report.specs.Picture.{class_edges_to}
use Rattle.report.proofs.Rows.{later_more}
use Rattle.report.proofs.picture.edges.push_edges_from_class.Goals as goal

pub loop-target-preserved : goal.loop-target-preserved
loop-target-preserved c =
    let n = length c.args.plan.now.classes in
    let inside : c.loop-target.target < n = rw (← c.classes-target-end.ensures.value) c.loop-target-test.true in
    let body : c.deref.result.now ≡ c.args.class.now.body = c.deref.ensures.value ∙ ap (λ (it : Class). it.body) c.class.view_is in
    rw (c.in_ok-push_class_edges_to.ensures, body) (later_more (class_edges_to c.args.plan.now (option_map (λ ranks. ranks.now) c.args.ranks) c.args.number c.args.class.now.body) n c.loop-target.target _ _ inside c.loop-target.invariant)
