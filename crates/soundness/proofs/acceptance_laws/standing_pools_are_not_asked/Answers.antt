use Rattle.soundness.proofs.JavaBounded.{standing_pools_are_not_asked}
use Rattle.soundness.proofs.acceptance_laws.standing_pools_are_not_asked.Goals as goal

pub returns : goal.returns
returns c = standing_pools_are_not_asked
