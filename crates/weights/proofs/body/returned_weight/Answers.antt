use Rattle.std.proofs.Common.{◌≡◌, ◌<◌, length, sym, ap, ◌∙◌, arith}
use Rattle.weights.proofs.Fitting.{submitted_known, last_is_done}
use Rattle.weights.proofs.body.returned_weight.Goals as goal

pub overflow_sub-result : goal.overflow_sub-result
overflow_sub-result c = rw c.class_weights-weights.ensures (submitted_known _ _ _ c.requires.fits c.requires.class)

pub bounds-weights-weights : goal.bounds-weights-weights
bounds-weights-weights c =
    let some : 0 < length c.class_weights-weights.result.now = rw c.class_weights-weights.ensures (submitted_known _ _ _ c.requires.fits c.requires.class) in
    omega arith

pub returns-in-DoneWeight : goal.returns-in-DoneWeight
returns-in-DoneWeight c =
    rw (c.in-DoneWeight.is, c.class_weights-weights.ensures) (last_is_done c.args.plan.now c.args.vector.now c.args.class c.requires.fits c.requires.class)
