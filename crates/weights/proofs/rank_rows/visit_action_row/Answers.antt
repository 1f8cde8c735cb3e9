use Rattle.std.proofs.Common.{◌≡◌, ◌∙◌, Some, slice_get, ap}
use Rattle.job_bodies.specs.declared.action.Action.{Action}
use Rattle.job_bodies.specs.declared.action.Action.TheVariants.{Submit}
use Rattle.weights.proofs.RanksFitting.{class_fits}
use Rattle.weights.proofs.rank_rows.visit_action_row.Goals as goal

pub submit_row-requires-clause-submitted : goal.submit_row-requires-clause-submitted
submit_row-requires-clause-submitted g c =
    let f = class_fits c.args.plan.now c.args.ranks.now c.args.number c.args.class.now c.requires.well_formed c.requires.fits c.requires.class in
    let here : slice_get c.args.class.now.body c.args.position ≡ Some (Submit c.in-Submit.submitted) = c.requires.action ∙ ap (λ (x : Action). Some x) c.in-Submit.is in
    f.valid.submit c.args.position c.in-Submit.submitted here
