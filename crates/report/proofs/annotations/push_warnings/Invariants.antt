-- The remarks so far, followed by those of the remaining warnings, are the remarks at the start followed by those of all warnings.
use Rattle.std.proofs.Common.{◌≡◌, ◌++◌, length}
use Rattle.report.specs.Annotations.{remarks_in}
use Rattle.report.specs.Remarks.{warning_remarks}
use Rattle.report.proofs.annotations.push_warnings.Given as goal

abbrev pub invariant-loop-warning : goal.invariant-loop-warning
invariant-loop-warning l = remarks_in l.found.items ++ warning_remarks l.warnings ≡ remarks_in l.fn.found.items ++ warning_remarks l.fn.warnings

abbrev pub decreases-loop-warning : goal.decreases-loop-warning
decreases-loop-warning l = length l.warnings
