use Rattle.interleaving.specs.OfPlan.{IsReachableView}
use Rattle.tests.proofs.worlds.follow.followed.Given as goal

abbrev pub invariant-loop-number : goal.invariant-loop-number
invariant-loop-number l = IsReachableView l.plan l.world.view
