use Rattle.std.proofs.Common.{ℕ, ◌<◌}
use Rattle.conformance.specs.WalkStates.{IsAhead}
use Rattle.conformance.proofs.stop_reasons.submit_ahead.Given as goal

abbrev pub invariant-loop-submit : goal.invariant-loop-submit
invariant-loop-submit l = (k : ℕ) → k < l.submit → IsAhead l.states l.body l.classes k → ⊥
