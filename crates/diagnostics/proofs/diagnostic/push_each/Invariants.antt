-- The text so far, followed by the lines of the remaining faults, is the text at the start followed by the lines of all faults.
use Rattle.std.proofs.Common.{◌≡◌, ◌++◌, length}
use Rattle.std.specs.Prelude.{string_bytes}
use Rattle.diagnostics.specs.Diagnostic.{diagnostic_lines}
use Rattle.diagnostics.proofs.diagnostic.push_each.Given as goal

abbrev pub invariant-loop-one : goal.invariant-loop-one
invariant-loop-one l = string_bytes l.text ++ diagnostic_lines l.file l.diagnostic ≡ string_bytes l.fn.text ++ diagnostic_lines l.file l.fn.diagnostic

abbrev pub decreases-loop-one : goal.decreases-loop-one
decreases-loop-one l = length l.diagnostic
