use Rattle.std.proofs.Common.{ℕ, Option, Some, subst, sym}
use Rattle.conformance.specs.declared.mismatch.DeviatingStep.TheVariants.{EndsOpen, Ends}
use Rattle.conformance.specs.Lines.{lines_of}
use Rattle.conformance.specs.Description.{IsDeviatingEnd, closed, while_open}
use Rattle.conformance.proofs.describe_mismatch.deviating_end.Goals as goal

pub returns-in-None : goal.returns-in-None
returns-in-None c = subst (λ (first : Option ℕ). IsDeviatingEnd (lines_of c.args.first.now) c.args.actor first Ends) (sym c.in-None.is) closed

pub returns-in_ok-label-in-Some : goal.returns-in_ok-label-in-Some
returns-in_ok-label-in-Some c =
    let lines = lines_of c.args.first.now in
    let job = c.in-Some.job in
    let label = c.in_ok-label-in-Some.label in
    subst (λ (first : Option ℕ). IsDeviatingEnd lines c.args.actor first (EndsOpen job label c.failed_gets.result)) (sym c.in-Some.is)
    (subst (λ (gets : ℕ). IsDeviatingEnd lines c.args.actor (Some job) (EndsOpen job label gets)) (sym c.failed_gets.ensures) (while_open job label c.in_ok-label-in-Some.ensures))
