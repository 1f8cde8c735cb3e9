use Rattle.std.proofs.Common.{◌≡◌, ◌≤◌, [], drop, take, length}
use Rattle.conformance.specs.Lines.{lines_of}
use Rattle.conformance.specs.FirstLines.{AreFirst}
use Rattle.conformance.proofs.first_lines.note_lines.Given as goal

abbrev pub invariant-loop-line : goal.invariant-loop-line
invariant-loop-line l = record {
  rest : l.lines ≡ drop l.number (lines_of l.text);
  within : l.number ≤ length (lines_of l.text);
  few : length (lines_of l.text) ≤ length l.text;
  first : AreFirst [] l.fn.table → AreFirst (take l.number (lines_of l.text)) l.table;
}

abbrev pub decreases-loop-line : goal.decreases-loop-line
decreases-loop-line l = length l.lines
