use Rattle.std.proofs.Common.{Option, Some, None, sym, subst}
use Rattle.conformance.specs.declared.first_lines.FoundLine.{FoundLine}
use Rattle.conformance.specs.FirstLines.{IsCopy, neither, both}
use Rattle.conformance.proofs.first_lines.copy_of.Goals as goal

pub returns-in_ok-copy-in-Some : goal.returns-in_ok-copy-in-Some
returns-in_ok-copy-in-Some c =
    let copy = c.in_ok-copy-in-Some.copy in
    subst (λ (found : Option FoundLine). IsCopy found (Some copy)) (sym c.in-Some.is)
    (both c.in-Some.found copy c.in_ok-copy-in-Some.ensures.number c.in_ok-copy-in-Some.ensures.label c.in_ok-copy-in-Some.ensures.pool)

pub returns-in-None : goal.returns-in-None
returns-in-None c = subst (λ (found : Option FoundLine). IsCopy found None) (sym c.in-None.is) neither
