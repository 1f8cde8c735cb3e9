-- The text so far, followed by the lines of the remaining warnings, is the text at the start followed by the lines of all warnings.
use Rattle.std.proofs.Common.{◌≡◌, ◌++◌, length}
use Rattle.std.specs.Prelude.{string_bytes}
use Rattle.diagnostics.specs.Diagnostic.{warnings_text}
use Rattle.diagnostics.proofs.warning_lines.push_warnings.Given as goal

abbrev pub invariant-loop-warning : goal.invariant-loop-warning
invariant-loop-warning l = string_bytes l.text ++ warnings_text l.file l.warnings ≡ string_bytes l.fn.text ++ warnings_text l.file l.fn.warnings

abbrev pub decreases-loop-warning : goal.decreases-loop-warning
decreases-loop-warning l = length l.warnings
