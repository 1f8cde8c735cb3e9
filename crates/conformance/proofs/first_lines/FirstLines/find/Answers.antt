use Rattle.std.proofs.Common.{ℕ, List, sym, subst}
use Rattle.std.proofs.lemmas.Result.{IfOk-weaker}
use Rattle.conformance.specs.FirstLines.{IsFound}
use Rattle.conformance.specs.Lines.{lines_of}
use Rattle.conformance.proofs.FirstLinesAfter.{copied}
use Rattle.conformance.proofs.first_lines.FirstLines.find.Goals as goal

pub returns-in-Some : goal.returns-in-Some
returns-in-Some c =
    let found = c.in-Some.found.now in
    let there = subst (λ (text : List ℕ). IsFound (lines_of text) c.args.query found) c.self.view_is (c.self.invariant.0 c.args.query found (sym c.in-Some.ensures.value)) in
    IfOk-weaker c.copy_of.result _ _ (λ copy is. copied (lines_of c.args.self.now) c.args.query found copy there is) c.copy_of.ensures
