use Rattle.std.proofs.Common.{◌<◌, length, arith}
use Rattle.weights.proofs.Fitting.{class_fits}
use Rattle.weights.proofs.standing.visit_queued_row.Goals as goal

pub bounds-class_weights-0 : goal.bounds-class_weights-0
bounds-class_weights-0 g c =
    let f = class_fits c.args.plan.now c.args.vector.now c.args.number c.args.class.now c.requires.well_formed c.requires.fits c.requires.class in
    rw c.class_weights.ensures (omega (arith, f.long))
