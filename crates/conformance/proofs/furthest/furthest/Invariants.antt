use Rattle.std.proofs.Common.{take}
use Rattle.conformance.proofs.FurthestStates.{IsFurthestOf}
use Rattle.conformance.proofs.furthest.furthest.Given as goal

abbrev pub invariant-loop-number : goal.invariant-loop-number
invariant-loop-number l = IsFurthestOf l.states (take l.number l.states) l.end l.reached
