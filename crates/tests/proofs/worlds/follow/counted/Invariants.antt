use Rattle.interleaving.specs.OfPlan.{IsReachableView}
use Rattle.tests.proofs.worlds.follow.counted.Given as goal

abbrev pub invariant-loop-line : goal.invariant-loop-line
invariant-loop-line l = IsReachableView l.plan l.world.view
