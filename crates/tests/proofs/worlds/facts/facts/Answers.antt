use Rattle.std.proofs.Common.{length, ap, arith}
use Rattle.interleaving.proofs.OfPlan.{as_many_pools}
use Rattle.tests.proofs.worlds.facts.facts.Goals as goal

pub pool-requires : goal.pool-requires
pool-requires c =
    let same = as_many_pools c.args.plan.now c.args.world.now.view c.requires in
    omega (arith, same, ap length c.pools-number-end.ensures.value)
