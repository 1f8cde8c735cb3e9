use Rattle.conformance.specs.Lines.{lines_of}
use Rattle.conformance.proofs.FirstLinesAfter.{label_found}
use Rattle.conformance.proofs.first_lines.FirstLines.label_of.Goals as goal

pub returns-in-Some : goal.returns-in-Some
returns-in-Some c = label_found (lines_of c.args.self.now) c.args.job c.in_ok-label.field-0 c.in-Some.field-0 c.in-Some.is c.in_ok-label.ensures
