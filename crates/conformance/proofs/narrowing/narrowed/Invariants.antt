use Rattle.std.proofs.Common.{take}
use Rattle.conformance.specs.Narrowing.{IsNarrower}
use Rattle.conformance.proofs.narrowing.narrowed.Given as goal

abbrev pub invariant-loop-step : goal.invariant-loop-step
invariant-loop-step l = IsNarrower l.fewer.items (take l.step-index l.path)
