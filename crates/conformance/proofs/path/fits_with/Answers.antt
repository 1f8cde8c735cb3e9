use Rattle.std.proofs.Common.{List, subst}
use Rattle.conformance.specs.declared.path_match.PathMatch.{PathMatch}
use Rattle.conformance.specs.declared.step.PathStep.{PathStep}
use Rattle.conformance.specs.Path.{IsPathOf}
use Rattle.conformance.specs.PathMatch.{IsMatch}
use Rattle.conformance.proofs.NarrowerPaths.{path_within}
use Rattle.conformance.proofs.path.fits_with.Goals as goal

pub returns-in-Fits : goal.returns-in-Fits
returns-in-Fits c = λ fits.
    let a = c.args in
    let fit : IsPathOf a.kind a.path_state a.body.now c.deref.result.now = subst (λ (m : PathMatch). IsMatch a.kind a.path_state a.body.now c.deref.result.now m) c.in-Fits.is c.in_ok-path_match.ensures in
    path_within a.kind a.path_state a.body.now c.in_ok-fewer.fewer.items a.path.now c.in_ok-fewer.ensures
    (subst (λ (path : List PathStep). IsPathOf a.kind a.path_state a.body.now path) c.deref.ensures.value fit)
