use Rattle.std.proofs.Common.{◌≡◌, List, sym, ap, subst, ◌∙◌}
use Rattle.job_bodies.specs.declared.action.Action.{Action}
use Rattle.job_bodies.specs.Plan.{Class, class_at}
use Rattle.size_search.specs.Waiting.{GetsClass}
use Rattle.size_search.proofs.Nothing.{class_read}
use Rattle.size_search.proofs.causes.has_get_in_pool.Goals as goal

pub returns-then-may_lose_threads-clause-none : goal.returns-then-may_lose_threads-clause-none
returns-then-may_lose_threads-clause-none c =
    let plan = c.args.plan.now in
    let class : c.index-classes-number.result ≡ class_at plan c.args.number = class_read plan c.classes.result.now c.args.number c.index-classes-number.result c.classes.ensures.value c.requires c.index-classes-number.is in
    let body : c.deref.result.now ≡ (class_at plan c.args.number).body = c.deref.ensures.value ∙ ap (λ (any : Class). any.body) (c.class.view_is ∙ class) in
    λ none _ j gets. c.has_get.ensures.none none j (subst (λ (actions : List Action). GetsClass actions j) (sym body) gets)
