use Rattle.std.proofs.Common.{rules, List, subst, sym, ap, ◌∙◌}
use Rattle.job_bodies.specs.declared.action.Action.{Action}
use Rattle.conformance.specs.declared.step.PathState.TheVariants.{Whole}
use Rattle.conformance.specs.Path.{IsPathOf}
use Rattle.learning.specs.Covers.{work_of}
use Rattle.learning.specs.PathBody.{HasBody}
use Rattle.learning.proofs.OwnBody.{of_own_body, no_own_work}
use Rattle.learning.proofs.path_body.body_of_path.Goals as goal

pub returns-then-has_valid_gets-clause-fits : goal.returns-then-has_valid_gets-clause-fits
returns-then-has_valid_gets-clause-fits c = λ kind.
    let has : HasBody c.args.path.now = search rules in
    subst (λ (actions : List Action). IsPathOf kind Whole actions c.args.path.now) (sym c.in_ok-body.ensures) (of_own_body kind c.args.path.now has)

pub returns-then-has_valid_gets-clause-no_work : goal.returns-then-has_valid_gets-clause-no_work
returns-then-has_valid_gets-clause-no_work c = ap work_of c.in_ok-body.ensures ∙ no_own_work c.args.path.now
