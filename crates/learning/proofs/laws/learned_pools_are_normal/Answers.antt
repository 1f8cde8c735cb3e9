use Rattle.learning.proofs.NormalPools.{learned_pools_are_normal}
use Rattle.learning.proofs.laws.learned_pools_are_normal.Goals as goal

pub returns : goal.returns
returns c = learned_pools_are_normal
