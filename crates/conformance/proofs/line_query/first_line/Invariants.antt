use Rattle.std.proofs.Common.{◌≡◌, ◌≤◌, false, drop, take, length}
use Rattle.std.specs.List.{list_any}
use Rattle.conformance.specs.Lines.{lines_of}
use Rattle.conformance.specs.LineQuery.{is_match}
use Rattle.conformance.proofs.line_query.first_line.Given as goal

abbrev pub invariant-loop-line : goal.invariant-loop-line
invariant-loop-line l = record {
  rest : l.lines ≡ drop l.number (lines_of l.text);
  within : l.number ≤ length (lines_of l.text);
  few : length (lines_of l.text) ≤ length l.text;
  none : list_any (is_match l.line_query) (take l.number (lines_of l.text)) ≡ false;
}

abbrev pub decreases-loop-line : goal.decreases-loop-line
decreases-loop-line l = length l.lines
