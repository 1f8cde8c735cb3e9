use Rattle.std.proofs.Common.{◌≡◌, ◌∙◌, Some, inl, inr, get_or, slice_get, ap, sym}
use Rattle.job_bodies.specs.declared.action.Action.{Action}
use Rattle.job_bodies.specs.declared.action.Action.TheVariants.{Work, Submit, Get}
use Rattle.weights.specs.Ranks.{is_counted, is_counted_action}
use Rattle.weights.proofs.RanksFitting.{class_fits, got_reaches, action_read, counted_at, get_counted}
use Rattle.weights.proofs.counted_by_ranks.is_counted_in.Goals as goal

pub reach_of-reached-requires : goal.reach_of-reached-requires
reach_of-reached-requires c =
    let body : c.as_slice-actions.result.now ≡ c.args.class.now.body = c.as_slice-actions.ensures.value ∙ ap (λ (k : _). k.body) c.class.view_is in
    let here : slice_get c.args.class.now.body c.args.position ≡ Some (Get c.in-Get.submit) = action_read _ _ _ _ body c.requires.position c.in-Get.is in
    rw (c.submitted_class.ensures, body) (got_reaches c.args.plan.now c.args.ranks.now c.args.number c.args.class.now c.args.position c.in-Get.submit c.requires.well_formed c.requires.fits c.requires.class here)

pub rank_of-requires : goal.rank_of-requires
rank_of-requires c =
    let f = class_fits c.args.plan.now c.args.ranks.now c.args.number c.args.class.now c.requires.well_formed c.requires.fits c.requires.class in
    let same : c.class.inside.pool ≡ c.args.class.now.pool = ap (λ (k : _). k.pool) c.class.view_is in
    rw same f.pool

pub returns-in-Get : goal.returns-in-Get
returns-in-Get c =
    let f = class_fits c.args.plan.now c.args.ranks.now c.args.number c.args.class.now c.requires.well_formed c.requires.fits c.requires.class in
    let same : c.class.inside.pool ≡ c.args.class.now.pool = ap (λ (k : _). k.pool) c.class.view_is in
    let body : c.as_slice-actions.result.now ≡ c.args.class.now.body = c.as_slice-actions.ensures.value ∙ ap (λ (k : _). k.body) c.class.view_is in
    let here : slice_get c.args.class.now.body c.args.position ≡ Some (Get c.in-Get.submit) = action_read _ _ _ _ body c.requires.position c.in-Get.is in
    rw (c.reach_of-reached.ensures, c.rank_of.ensures, c.submitted_class.ensures, body, same) (get_counted c.args.plan.now c.args.ranks.now c.args.number c.args.class.now c.args.position c.in-Get.submit f.is_class here)

pub returns-in-Work : goal.returns-in-Work
returns-in-Work c =
    let plan = c.args.plan.now in
    let ranks = c.args.ranks.now in
    let actions = c.as_slice-actions.result.now in
    let i = c.args.position in
    let f = class_fits plan ranks c.args.number c.args.class.now c.requires.well_formed c.requires.fits c.requires.class in
    let body : actions ≡ c.args.class.now.body = c.as_slice-actions.ensures.value ∙ ap (λ (k : _). k.body) c.class.view_is in
    let as_read : (action : Action) → get_or actions i (Work 0) ≡ action → is_counted_action plan ranks c.args.number (Some action) ≡ is_counted plan ranks c.args.number i =
    λ action is. sym (counted_at plan ranks c.args.number c.args.class.now i action f.is_class (action_read _ _ _ _ body c.requires.position is)) in
    elim c.in-Work.is [
      | inl work ↦ as_read (Work work.0) work.1
      | inr submit ↦ as_read (Submit submit.0) submit.1
    ]
