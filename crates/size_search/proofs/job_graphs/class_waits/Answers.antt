use Rattle.std.proofs.Common.{◌≡◌, length, ap, ◌∙◌, arith}
use Rattle.job_bodies.specs.Plan.{Class, class_at}
use Rattle.job_bodies.proofs.Bodies.{ordered}
use Rattle.size_search.proofs.Nothing.{class_read}
use Rattle.size_search.proofs.job_graphs.class_waits.Goals as goal

pub overflow_add-classes : goal.overflow_add-classes
overflow_add-classes c =
    let plan = c.args.plan.now in
    let well = c.classes.ensures.well_formed in
    let class : c.index-classes-number.result ≡ class_at plan c.args.number = class_read plan c.classes.result.now c.args.number c.index-classes-number.result c.classes.ensures.value c.requires c.index-classes-number.is in
    let pool = ap (λ (any : Class). any.pool) (c.class.view_is ∙ class) in
    let within = (ordered plan well).pools c.args.number c.requires in
    omega (arith, pool, within, well.few_pools, well.few_classes, ap length c.classes-2.ensures.value)
