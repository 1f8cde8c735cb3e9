use Rattle.std.proofs.Common.{◌≡◌, ℕ, ◌<◌, get_or, slice_get, Some, refl, ⊎_elim, subst, arith, rules}
use Rattle.std.proofs.lemmas.Bool.{cases_lt}
use Rattle.std.proofs.lemmas.Option.{slice_get_within, get_or_from_slice_get}
use Rattle.support.specs.In.{In}
use Rattle.support.proofs.Members.{In-get_or}
use Rattle.job_bodies.specs.declared.action.Action.{Action}
use Rattle.job_bodies.specs.declared.action.Action.TheVariants.{Work, Get}
use Rattle.job_bodies.specs.Plan.{submitted_class}
use Rattle.size_search.proofs.Opened.{place_in}
use Rattle.size_search.proofs.causes.has_get.Goals as goal

pub returns-in-Get-clause-has : goal.returns-in-Get-clause-has
returns-in-Get-clause-has c =
    let body = c.args.body.now in
    let i = c.loop-action.action-index in
    let t = c.in-Get.field-0 in
    let is : get_or body i (Work 0) ≡ Get t = search rules in
    λ _. (submitted_class body t, record { submit = t; at = subst (λ (x : Action). In x body) is (In-get_or body i (Work 0) c.loop-action-test.true); of_class = refl })

pub loop-action-preserved : goal.loop-action-preserved
loop-action-preserved c =
    let body = c.args.body.now in
    let index = c.loop-action.action-index in
    λ i t below is.
    ⊎_elim
    (λ (before : i < index). c.loop-action.invariant i t before is)
    (λ past.
    let same : i ≡ index = omega (arith, past, below) in
    let this : get_or body index (Work 0) ≡ Get t = get_or_from_slice_get body index (Get t) (Work 0) (subst (λ (n : ℕ). slice_get body n ≡ Some (Get t)) same is) in
    c.in_default.not-Get t (search rules))
    (cases_lt i index)

pub returns-clause-none : goal.returns-clause-none
returns-clause-none c = λ _ j gets.
    let body = c.args.body.now in
    let place = place_in gets.at in
    c.loop-action.invariant place.0 gets.submit (omega (arith, c.loop-action-test.false, slice_get_within body place.0 (Get gets.submit) place.1)) place.1
