use Rattle.std.proofs.Common.{◌≡◌, List, [], ◌∷◌, ◌++◌, length, take, get_or, refl, sym, subst}
use Rattle.std.proofs.lemmas.Option.{slice_get_read, get_or_from_slice_get}
use Rattle.std.proofs.lemmas.List.{take_more}
use Rattle.std.proofs.lemmas.List.Elements.{AllZip-push}
use Rattle.conformance.specs.declared.step.PathStep.{PathStep}
use Rattle.conformance.specs.Narrowing.{IsNarrowerStep, IsNarrower}
use Rattle.conformance.proofs.narrowing.narrowed.Goals as goal

pub loop-step-preserved : goal.loop-step-preserved
loop-step-preserved c =
    let path = c.args.path.now in
    let index = c.loop-step.step-index in
    let one = c.step-item.result in
    let first = get_or path index one in
    let at = slice_get_read path (length path) index one refl c.loop-step-test.true c.step-item.is in
    let is : first ≡ one = get_or_from_slice_get path index one one at in
    rw (take_more path index one c.loop-step-test.true)
    (subst (λ (items : List PathStep). IsNarrower items (take index path ++ first ∷ [])) (sym c.in_ok-push.ensures.items)
    (AllZip-push IsNarrowerStep c.loop-step.fewer.items (take index path) c.in_ok-narrower.narrower first c.loop-step.invariant
    (subst (λ (other : PathStep). IsNarrowerStep c.in_ok-narrower.narrower other) (sym is) c.in_ok-narrower.ensures)))
