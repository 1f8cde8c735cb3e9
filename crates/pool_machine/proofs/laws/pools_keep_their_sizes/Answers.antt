use Rattle.pool_machine.proofs.ReachedLaws.{sizes_kept}
use Rattle.pool_machine.proofs.laws.pools_keep_their_sizes.Goals as goal

pub returns : goal.returns
returns c = sizes_kept
