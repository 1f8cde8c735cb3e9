use Rattle.std.proofs.Common.{arith}
use Rattle.conformance.specs.declared.step.PathState.TheVariants.{Whole}
use Rattle.conformance.specs.Path.{IsPathOf}
use Rattle.conformance.specs.PathMatch.{IsUnambiguous}
use Rattle.learning.proofs.CoveredPaths.{at_item, one_more}
use Rattle.learning.proofs.cover.covers.Goals as goal

pub returns-then-not-branch-clause-sure : goal.returns-then-not-branch-clause-sure
returns-then-not-branch-clause-sure c = λ sure.
    let a = c.args in
    let index = c.loop-path.path-index in
    let item = c.path-item.result in
    let steps = c.deref.result.now in
    let unambiguous = at_item (IsUnambiguous a.body.now) a.paths.now index item steps c.deref.ensures.value c.path-item.is c.loop-path-test.true sure.unambiguous in
    let covered = at_item (IsPathOf a.kind Whole a.body.now) a.paths.now index item steps c.deref.ensures.value c.path-item.is c.loop-path-test.true sure.covers in
    let yes = c.in_ok-is_path_of.ensures.sure unambiguous covered in
    grind (arith, yes, c.if-not-branch.true)

pub loop-path-preserved : goal.loop-path-preserved
loop-path-preserved c =
    let a = c.args in
    one_more (IsPathOf a.kind Whole a.body.now) a.paths.now c.loop-path.path-index c.path-item.result c.deref.result.now c.deref.ensures.value c.path-item.is c.loop-path-test.true c.loop-path.invariant
    (c.in_ok-is_path_of.ensures.yes (grind (arith, c.if-not-branch.false)))
