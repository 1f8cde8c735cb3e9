use Rattle.pool_machine.proofs.ReachedLaws.{fixed_pools_full}
use Rattle.pool_machine.proofs.laws.fixed_pools_are_full.Goals as goal

pub returns : goal.returns
returns c = fixed_pools_full
