use Rattle.std.proofs.Common.{rules, ◌≡◌, ◌+◌, false, true, List, ap, sym, subst, ◌∙◌}
use Rattle.std.specs.List.{list_all}
use Rattle.job_bodies.specs.declared.action.Action.{Action}
use Rattle.job_bodies.specs.Plan.{Class, class_at}
use Rattle.job_bodies.specs.ValidBody.{IsValidBody}
use Rattle.job_bodies.proofs.Bodies.{ordered}
use Rattle.weights.specs.Vector.{Vector, is_small}
use Rattle.size_search.specs.ComputedRows.{IsComputedUpTo}
use Rattle.size_search.specs.Steady.{class_row}
use Rattle.size_search.proofs.RowSteps.{class_here, computed_put, heavy_here, with_row}
use Rattle.size_search.proofs.rows.set_class_row.Goals as goal

pub class_row-requires-clause-valid : goal.class_row-requires-clause-valid
class_row-requires-clause-valid c =
    let plan = c.args.plan.now in
    let number = c.args.number in
    let class = class_here plan c.classes.result.now number c.index-classes-number.result c.classes.ensures.value c.requires.number c.index-classes-number.is in
    let body : c.deref.result.now ≡ (class_at plan number).body = c.deref.ensures.value ∙ ap (λ (any : Class). any.body) (c.class.view_is ∙ class) in
    subst (λ (actions : List Action). IsValidBody plan actions) (sym body) ((ordered plan c.classes.ensures.well_formed).classes number)

pub returns-then-not-are_small-clause-heavy : goal.returns-then-not-are_small-clause-heavy
returns-then-not-are_small-clause-heavy c =
    let plan = c.args.plan.now in
    let number = c.args.number in
    let class = class_here plan c.classes.result.now number c.index-classes-number.result c.classes.ensures.value c.requires.number c.index-classes-number.is in
    let body : c.deref.result.now ≡ (class_at plan number).body = c.deref.ensures.value ∙ ap (λ (any : Class). any.body) (c.class.view_is ∙ class) in
    let made : c.in_ok-row.row.items ≡ class_row plan c.args.jobs.now c.deref.result.now = c.in_ok-row.ensures in
    let heavy : list_all is_small c.in_ok-row.row.items ≡ false = search rules in
    heavy_here plan c.args.jobs.now c.args.level number (ordered plan c.classes.ensures.well_formed) c.requires.free c.requires.computed c.requires.level c.requires.number
    (sym (ap (list_all is_small) (made ∙ ap (class_row plan c.args.jobs.now) body)) ∙ heavy)

pub returns-clause-computed : goal.returns-clause-computed
returns-clause-computed c =
    let plan = c.args.plan.now in
    let v = c.args.jobs.now in
    let number = c.args.number in
    let class = class_here plan c.classes.result.now number c.index-classes-number.result c.classes.ensures.value c.requires.number c.index-classes-number.is in
    let body : c.deref.result.now ≡ (class_at plan number).body = c.deref.ensures.value ∙ ap (λ (any : Class). any.body) (c.class.view_is ∙ class) in
    let made : c.in_ok-row.row.items ≡ class_row plan v c.deref.result.now = c.in_ok-row.ensures in
    let is : c.in_ok-row.row.items ≡ class_row plan v (class_at plan number).body = made ∙ ap (class_row plan v) body in
    let small : list_all is_small c.in_ok-row.row.items ≡ true = search rules in
    subst (λ (any : Vector). IsComputedUpTo plan any c.args.level (number + 1)) (sym (c.put_row.ensures ∙ ap (with_row v number) is))
    (computed_put plan v c.args.level number (ordered plan c.classes.ensures.well_formed) c.requires.free c.requires.computed c.requires.level c.requires.number
    (sym (ap (list_all is_small) is) ∙ small))
