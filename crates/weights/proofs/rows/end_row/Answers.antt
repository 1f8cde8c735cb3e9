use Rattle.std.proofs.Common.{◌≡◌, ◌<◌, ◌≤◌, ◌+◌, ◌-◌, ◌∙◌, length, refl, ap, sym, arith}
use Rattle.std.specs.Prelude.{slice_index, slice_index_or}
use Rattle.job_bodies.specs.declared.limits.TheConstants.{MAX_WEIGHT}
use Rattle.weights.specs.Vector.{class_weights}
use Rattle.weights.proofs.Fitting.{fits, class_fits}
use Rattle.weights.proofs.rows.end_row.Goals as goal

pub workers_weight-worker-requires : goal.workers_weight-worker-requires
workers_weight-worker-requires c =
    let f = class_fits c.args.plan.now c.args.vector.now c.args.number c.args.class.now c.requires.well_formed c.requires.fits c.requires.class in
    let same : c.class.inside.pool ≡ c.args.class.now.pool = ap (λ (k : _). k.pool) c.class.view_is in
    rw same f.pool

pub overflow_sub-done : goal.overflow_sub-done
overflow_sub-done c =
    let f = class_fits c.args.plan.now c.args.vector.now c.args.number c.args.class.now c.requires.well_formed c.requires.fits c.requires.class in
    rw c.class_weights-weights.ensures (omega (arith, f.long))

pub bounds-weights-done : goal.bounds-weights-done
bounds-weights-done c =
    let f = class_fits c.args.plan.now c.args.vector.now c.args.number c.args.class.now c.requires.well_formed c.requires.fits c.requires.class in
    rw c.class_weights-weights.ensures (omega (arith, f.long))

pub bounds-weights-done-2 : goal.bounds-weights-done-2
bounds-weights-done-2 c =
    let f = class_fits c.args.plan.now c.args.vector.now c.args.number c.args.class.now c.requires.well_formed c.requires.fits c.requires.class in
    rw c.class_weights-weights.ensures (omega (arith, f.long))

pub returns : goal.returns
returns c =
    let f = class_fits c.args.plan.now c.args.vector.now c.args.number c.args.class.now c.requires.well_formed c.requires.fits c.requires.class in
    let same : c.class.inside.pool ≡ c.args.class.now.pool = ap (λ (k : _). k.pool) c.class.view_is in
    let done : length (class_weights c.args.vector.now c.args.number) - 1 ≡ length c.args.class.now.body + 2 = omega (arith, f.long) in
    let last : length (class_weights c.args.vector.now c.args.number) - 1 - 1 ≡ length c.args.class.now.body + 1 = omega (arith, f.long) in
    rw (c.new.ensures, c.class_weights-weights.ensures, c.workers_weight-worker.ensures, same, last, done, ap (λ (k : _). length k.body) f.is_class) refl

pub overflow_sub-done-2 : goal.overflow_sub-done-2
overflow_sub-done-2 c =
    let f = class_fits c.args.plan.now c.args.vector.now c.args.number c.args.class.now c.requires.well_formed c.requires.fits c.requires.class in
    rw c.class_weights-weights.ensures (omega (arith, f.long))
