-- There is a diagnostic in a single line for each diagnostic before the current index.
use Rattle.std.proofs.Common.{◌≡◌, length}
use Rattle.std.specs.List.{All}
use Rattle.diagnostics.specs.Diagnostic.{HasSingleLine}
use Rattle.diagnostics.proofs.plan_faults.in_single_lines.Given as goal

abbrev pub invariant-loop-one : goal.invariant-loop-one
invariant-loop-one l = record {
  single_lines : All HasSingleLine l.others.items;
  each : length l.others.items ≡ l.one-index;
}
