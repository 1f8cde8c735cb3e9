use Rattle.std.proofs.Common.{List, get_or, subst, sym, ◌∙◌}
use Rattle.job_bodies.specs.declared.action.Action.{Action}
use Rattle.conformance.specs.declared.step.PathState.TheVariants.{Whole}
use Rattle.conformance.specs.Path.{IsPathOf}
use Rattle.learning.proofs.CoveredPaths.{no_work, same_work}
use Rattle.learning.proofs.cover.covering_body.Goals as goal

pub returns-then-branch-clause-covers : goal.returns-then-branch-clause-covers
returns-then-branch-clause-covers c = λ k d l.
    let a = c.args in
    subst (λ (body : List Action). IsPathOf a.kind Whole body (get_or a.paths.now k d).items) (sym c.in_ok-from_slice.ensures.items) (c.in_ok-covers.ensures.yes c.if-branch.true k d l)

pub returns-clause-work : goal.returns-clause-work
returns-clause-work c = let a = c.args in same_work a.kind a.body.now a.paths.now c.new_body.result (no_work a.body.now (sym c.has_work.ensures ∙ c.if-has_work.false)) c.new_body.ensures.covering
