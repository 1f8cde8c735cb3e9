use Rattle.std.proofs.Common.{◌≡◌, ◌<◌, length, slice_get, Some, sym, ap, ◌∙◌, arith}
use Rattle.std.proofs.lemmas.Option.{slice_get-get_or}
use Rattle.job_bodies.specs.declared.action.Action.TheVariants.{Work, Submit, Get}
use Rattle.weights.proofs.Fitting.{submitted_known, got_known}
use Rattle.weights.proofs.body.action_row.Goals as goal

pub bounds-class_weights-0 : goal.bounds-class_weights-0
bounds-class_weights-0 c =
    let actions = c.args.body.now.actions.now in
    let here : slice_get actions c.args.position ≡ Some (Submit c.in-Submit.class) = slice_get-get_or actions c.args.position (Work 0) c.requires.position ∙ ap (λ (x : _). Some x) c.in-Submit.is in
    let known = c.requires.weighed.valid.submit c.args.position c.in-Submit.class here in
    let some : 0 < length c.class_weights.result.now = rw c.class_weights.ensures (submitted_known c.args.plan.now c.args.vector.now c.in-Submit.class c.requires.fits known) in
    some

pub returned_weight-requires-clause-class : goal.returned_weight-requires-clause-class
returned_weight-requires-clause-class c =
    let actions = c.args.body.now.actions.now in
    let here : slice_get actions c.args.position ≡ Some (Get c.in-Get.submit) = slice_get-get_or actions c.args.position (Work 0) c.requires.position ∙ ap (λ (x : _). Some x) c.in-Get.is in
    rw c.submitted_class-class.ensures (got_known _ _ c.args.position _ c.requires.weighed.valid here)
