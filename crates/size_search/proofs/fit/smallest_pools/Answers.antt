use Rattle.std.proofs.Common.{arith}
use Rattle.std.proofs.lemmas.Grind.{common_steps}
use Rattle.size_search.proofs.fit.smallest_pools.Goals as goal

pub loop-pool-preserved : goal.loop-pool-preserved
loop-pool-preserved c = grind (arith, common_steps)
