use Rattle.std.proofs.Common.{◌≡◌, ◌<◌, ◌≤◌, length, ap, sym, arith}
use Rattle.std.specs.Prelude.{slice_index_or}
use Rattle.job_bodies.specs.declared.limits.TheConstants.{MAX_WEIGHT}
use Rattle.weights.proofs.Fitting.{fits, class_fits}
use Rattle.weights.proofs.rows.take_row.Goals as goal

pub workers_weight-worker-requires : goal.workers_weight-worker-requires
workers_weight-worker-requires c =
    let f = class_fits c.args.plan.now c.args.vector.now c.args.number c.args.class.now c.requires.well_formed c.requires.fits c.requires.class in
    let same : c.class.inside.pool ≡ c.args.class.now.pool = ap (λ (k : _). k.pool) c.class.view_is in
    rw same f.pool

pub bounds-weights-1 : goal.bounds-weights-1
bounds-weights-1 c =
    let f = class_fits c.args.plan.now c.args.vector.now c.args.number c.args.class.now c.requires.well_formed c.requires.fits c.requires.class in
    let inside : 1 < length c.class_weights-weights.result.now = rw c.class_weights-weights.ensures (omega (arith, f.long)) in
    inside

pub bounds-weights-0 : goal.bounds-weights-0
bounds-weights-0 c =
    let f = class_fits c.args.plan.now c.args.vector.now c.args.number c.args.class.now c.requires.well_formed c.requires.fits c.requires.class in
    let inside : 0 < length c.class_weights-weights.result.now = rw c.class_weights-weights.ensures (omega (arith, f.long)) in
    inside

pub overflow_add-weights : goal.overflow_add-weights
overflow_add-weights c =
    let f = class_fits c.args.plan.now c.args.vector.now c.args.number c.args.class.now c.requires.well_formed c.requires.fits c.requires.class in
    let queued : slice_index_or c.class_weights-weights.result.now 0 0 ≤ MAX_WEIGHT = rw c.class_weights-weights.ensures (f.small 0) in
    let worker : c.workers_weight-worker.result ≤ MAX_WEIGHT = rw c.workers_weight-worker.ensures ((fits c.args.plan.now c.args.vector.now c.requires.fits).small_worker c.class.inside.pool) in
    omega arith
