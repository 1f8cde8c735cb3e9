-- The remarks so far, followed by those of the remaining pools, are the remarks at the start followed by those of all pools.
use Rattle.std.proofs.Common.{◌≡◌, ◌++◌}
use Rattle.report.specs.Annotations.{remarks_in}
use Rattle.report.specs.Remarks.{fitted_remarks}
use Rattle.report.proofs.Rows.{rest_of}
use Rattle.report.proofs.size_annotations.push_changes.Given as goal

abbrev pub invariant-loop-number : goal.invariant-loop-number
invariant-loop-number l = remarks_in l.found.items ++ rest_of (fitted_remarks l.rule l.places l.plan) l.fitted l.number ≡ remarks_in l.fn.found.items ++ rest_of (fitted_remarks l.rule l.places l.plan) l.fitted 0
