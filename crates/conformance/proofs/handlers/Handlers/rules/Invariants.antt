use Rattle.std.proofs.Common.{List}
use Rattle.recordings.specs.RecordingLine.{RecordedLine}
use Rattle.conformance.specs.Handlers.{AreHandlersOf}
use Rattle.conformance.proofs.RejectionRules.{AreFirstRules}
use Rattle.conformance.proofs.handlers.Handlers.rules.Given as goal

abbrev pub invariant-loop-pool : goal.invariant-loop-pool
invariant-loop-pool l = (lines : List RecordedLine) → AreHandlersOf lines l.self → AreFirstRules l.plan lines l.pool l.rules.items
