use Rattle.std.proofs.Common.{◌≡◌, ◌-◌, ◌∙◌, length, refl, ap, arith}
use Rattle.weights.specs.Vector.{client_weights}
use Rattle.weights.proofs.Fitting.{client_fits}
use Rattle.weights.proofs.rows.loop_row.Goals as goal

pub bounds-weights-0 : goal.bounds-weights-0
bounds-weights-0 c =
    let f = client_fits c.args.plan.now c.args.vector.now c.args.number c.args.client.now c.requires.well_formed c.requires.fits c.requires.client in
    rw c.client_weights-weights.ensures (omega (arith, f.long))

pub overflow_sub-weights : goal.overflow_sub-weights
overflow_sub-weights c =
    let f = client_fits c.args.plan.now c.args.vector.now c.args.number c.args.client.now c.requires.well_formed c.requires.fits c.requires.client in
    rw c.client_weights-weights.ensures (omega (arith, f.long))

pub bounds-weights-weights : goal.bounds-weights-weights
bounds-weights-weights c =
    let f = client_fits c.args.plan.now c.args.vector.now c.args.number c.args.client.now c.requires.well_formed c.requires.fits c.requires.client in
    rw c.client_weights-weights.ensures (omega (arith, f.long))

pub returns : goal.returns
returns c =
    let f = client_fits c.args.plan.now c.args.vector.now c.args.number c.args.client.now c.requires.well_formed c.requires.fits c.requires.client in
    let last : length (client_weights c.args.vector.now c.args.number) - 1 ≡ length c.args.client.now.body = omega (arith, f.long) in
    rw (c.new.ensures, c.client_weights-weights.ensures, last) refl
