use Rattle.std.proofs.Common.{◌≡◌, length}
use Rattle.conformance.specs.Lines.{with_form}
use Rattle.conformance.proofs.well_formed_lines.WellFormedLines.next.Given as goal

abbrev pub invariant-loop-line : goal.invariant-loop-line
invariant-loop-line l = with_form l.self-inside.lines ≡ with_form l.initial.self-inside.lines

abbrev pub decreases-loop-line : goal.decreases-loop-line
decreases-loop-line l = length l.self-inside.lines
