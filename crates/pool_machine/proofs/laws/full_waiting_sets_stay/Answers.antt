use Rattle.pool_machine.proofs.ReachedLaws.{full_sets_stay}
use Rattle.pool_machine.proofs.laws.full_waiting_sets_stay.Goals as goal

pub returns : goal.returns
returns c = full_sets_stay
