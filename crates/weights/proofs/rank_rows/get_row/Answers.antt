use Rattle.std.proofs.Common.{◌≡◌, ◌∙◌, ap}
use Rattle.weights.proofs.RanksFitting.{class_fits, got_reaches}
use Rattle.weights.proofs.rank_rows.get_row.Goals as goal

pub reach_of-requires : goal.reach_of-requires
reach_of-requires c =
    let body : c.deref.result.now ≡ c.args.class.now.body = c.deref.ensures.value ∙ ap (λ (k : _). k.body) c.class.view_is in
    rw (c.submitted_class.ensures, body) (got_reaches c.args.plan.now c.args.ranks.now c.args.number c.args.class.now c.args.position c.args.submit c.requires.well_formed c.requires.fits c.requires.class c.requires.action)

pub reach_of-requires-2 : goal.reach_of-requires-2
reach_of-requires-2 c =
    let f = class_fits c.args.plan.now c.args.ranks.now c.args.number c.args.class.now c.requires.well_formed c.requires.fits c.requires.class in
    f.reach
