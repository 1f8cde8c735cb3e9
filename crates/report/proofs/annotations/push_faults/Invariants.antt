-- The remarks so far, followed by those of the remaining faults, are the remarks at the start followed by those of all faults.
use Rattle.std.proofs.Common.{◌≡◌, ◌++◌, length}
use Rattle.report.specs.Annotations.{remarks_in}
use Rattle.report.specs.Remarks.{each_fault}
use Rattle.report.proofs.annotations.push_faults.Given as goal

abbrev pub invariant-loop-fault : goal.invariant-loop-fault
invariant-loop-fault l = remarks_in l.found.items ++ each_fault l.faults ≡ remarks_in l.fn.found.items ++ each_fault l.fn.faults

abbrev pub decreases-loop-fault : goal.decreases-loop-fault
decreases-loop-fault l = length l.faults
