use Rattle.std.proofs.Common.{rules, ◌≡◌, get_or, sym, ◌∙◌, arith}
use Rattle.job_bodies.specs.declared.action.Action.TheVariants.{Work, Submit, Get}
use Rattle.size_search.proofs.Computations.{at_position, open_weight_after-work, open_weight_after-submit, not_opened, closed-get, open-bound}
use Rattle.size_search.proofs.body.open_weight_after.Goals as goal

pub overflow_add-result : goal.overflow_add-result
overflow_add-result c =
    omega (arith, c.requires.current_weight, open-bound c.args.vector.now c.args.body.now c.args.position c.requires.small, c.requires.inside, c.requires.valid.short, c.queued.ensures, c.requires.small.small c.in-Submit.class 0)

pub overflow_sub-result : goal.overflow_sub-result
overflow_sub-result c =
    let is : get_or c.args.body.now c.args.position (Work 0) ≡ Get c.in-Get.submit = search rules in
    let at = at_position c.args.body.now c.args.position (Get c.in-Get.submit) c.requires.inside is in
    let closed = closed-get c.args.plan.now c.args.vector.now c.args.body.now c.args.position c.in-Get.submit c.requires.valid at in
    rw (c.queued-in-Get.ensures, c.submitted_class.ensures) (omega (arith, c.requires.current_weight, closed))

pub returns-in-Work : goal.returns-in-Work
returns-in-Work c =
    let is : get_or c.args.body.now c.args.position (Work 0) ≡ Work c.in-Work.field-0 = search rules in
    let at = at_position c.args.body.now c.args.position (Work c.in-Work.field-0) c.requires.inside is in
    c.requires.current_weight ∙ open_weight_after-work c.args.vector.now c.args.body.now c.args.position c.in-Work.field-0 at

pub returns-then-has_get_of : goal.returns-then-has_get_of
returns-then-has_get_of c =
    let is : get_or c.args.body.now c.args.position (Work 0) ≡ Submit c.in-Submit.class = search rules in
    let at = at_position c.args.body.now c.args.position (Submit c.in-Submit.class) c.requires.inside is in
    omega (arith, c.requires.current_weight, c.queued.ensures, open_weight_after-submit c.args.plan.now c.args.vector.now c.args.body.now c.args.position c.in-Submit.class c.requires.valid at (sym c.has_get_of.ensures ∙ c.if-has_get_of.true))

pub returns-else-has_get_of : goal.returns-else-has_get_of
returns-else-has_get_of c =
    let is : get_or c.args.body.now c.args.position (Work 0) ≡ Submit c.in-Submit.class = search rules in
    let at = at_position c.args.body.now c.args.position (Submit c.in-Submit.class) c.requires.inside is in
    omega (arith, c.requires.current_weight, not_opened c.args.plan.now c.args.vector.now c.args.body.now c.args.position c.in-Submit.class c.requires.valid at (sym c.has_get_of.ensures ∙ c.if-has_get_of.false))

pub returns-in-Get : goal.returns-in-Get
returns-in-Get c =
    let is : get_or c.args.body.now c.args.position (Work 0) ≡ Get c.in-Get.submit = search rules in
    let at = at_position c.args.body.now c.args.position (Get c.in-Get.submit) c.requires.inside is in
    let closed = closed-get c.args.plan.now c.args.vector.now c.args.body.now c.args.position c.in-Get.submit c.requires.valid at in
    rw (c.queued-in-Get.ensures, c.submitted_class.ensures) (omega (arith, c.requires.current_weight, closed))
