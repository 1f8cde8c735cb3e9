-- The warnings so far are for the lints before the current index, in order, each in a single line and with its words.
use Rattle.std.proofs.Common.{◌≡◌, take}
use Rattle.std.specs.List.{All}
use Rattle.diagnostics.specs.Diagnostic.{WarnInSingleLines}
use Rattle.diagnostics.specs.Lints.{lints_in}
use Rattle.diagnostics.specs.WarningWords.{IsWarningOf}
use Rattle.diagnostics.proofs.warnings.warnings_about.Given as goal

abbrev pub invariant-loop-lint : goal.invariant-loop-lint
invariant-loop-lint l = record {
  lints : lints_in l.warnings.items ≡ take l.lint-index l.lints;
  single_lines : WarnInSingleLines l.warnings.items;
  circles : All (IsWarningOf l.plan) l.warnings.items;
}
