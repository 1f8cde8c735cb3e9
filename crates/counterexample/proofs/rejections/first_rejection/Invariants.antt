use Rattle.std.proofs.Common.{take}
use Rattle.counterexample.proofs.RejectionReplays.{ComesUnrejected}
use Rattle.counterexample.proofs.rejections.first_rejection.Given as goal

abbrev pub invariant-loop-index : goal.invariant-loop-index
invariant-loop-index l = ComesUnrejected l.plan (take l.index l.events) l.pool l.world.view
