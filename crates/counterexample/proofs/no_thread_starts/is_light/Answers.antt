use Rattle.std.proofs.Common.{◌≡◌, ◌<◌, true, length, refl, sym, ap, ◌∙◌, arith}
use Rattle.job_bodies.specs.Plan.{Class, pool_at}
use Rattle.counterexample.proofs.LightJobs.{weights_long, light_if_done}
use Rattle.counterexample.proofs.no_thread_starts.is_light.Goals as goal

pub bounds-weights-0 : goal.bounds-weights-0
bounds-weights-0 c =
    let some : 0 < length c.class_weights-weights.result.now = rw c.class_weights-weights.ensures (omega (arith, weights_long c.args.plan.now c.args.vector.now c.args.number c.args.class.now c.requires.fits c.requires.class)) in
    omega arith

pub overflow_sub-done : goal.overflow_sub-done
overflow_sub-done c = rw c.class_weights-weights.ensures (omega (arith, weights_long c.args.plan.now c.args.vector.now c.args.number c.args.class.now c.requires.fits c.requires.class))

pub bounds-weights-weights : goal.bounds-weights-weights
bounds-weights-weights c =
    let some : 0 < length c.class_weights-weights.result.now = rw c.class_weights-weights.ensures (omega (arith, weights_long c.args.plan.now c.args.vector.now c.args.number c.args.class.now c.requires.fits c.requires.class)) in
    omega arith

pub returns : goal.returns
returns c =
    let may : (pool_at c.args.plan.now c.args.class.now.pool).may_reject ≡ true =
    ap (λ (k : Class). (pool_at c.args.plan.now k.pool).may_reject) (sym c.class.view_is) ∙ sym c.may_reject.ensures ∙ c.if-not-may_reject.false in
    rw c.class_weights-weights.ensures (light_if_done c.args.plan.now c.args.vector.now c.args.number _ _ c.args.class.now c.requires.fits c.requires.class may refl refl)
