use Rattle.std.proofs.Common.{take}
use Rattle.counterexample.specs.ReplayResult.{ComesTo}
use Rattle.counterexample.proofs.replaying.replay.Given as goal

abbrev pub invariant-loop-index : goal.invariant-loop-index
invariant-loop-index l = ComesTo l.plan (take l.index l.events) l.world.view
