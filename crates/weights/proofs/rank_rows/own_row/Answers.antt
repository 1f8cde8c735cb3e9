use Rattle.std.proofs.Common.{◌≡◌, ap}
use Rattle.weights.proofs.RanksFitting.{class_fits}
use Rattle.weights.proofs.rank_rows.own_row.Goals as goal

pub rank_of-requires : goal.rank_of-requires
rank_of-requires c =
    let f = class_fits c.args.plan.now c.args.ranks.now c.args.number c.args.class.now c.requires.well_formed c.requires.fits c.requires.class in
    let same : c.class.inside.pool ≡ c.args.class.now.pool = ap (λ (k : _). k.pool) c.class.view_is in
    rw same f.pool

pub reach_of-requires : goal.reach_of-requires
reach_of-requires c =
    let f = class_fits c.args.plan.now c.args.ranks.now c.args.number c.args.class.now c.requires.well_formed c.requires.fits c.requires.class in
    f.reach
