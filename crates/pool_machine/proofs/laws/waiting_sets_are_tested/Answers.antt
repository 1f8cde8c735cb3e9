use Rattle.pool_machine.proofs.ReachedLaws.{sets_tested}
use Rattle.pool_machine.proofs.laws.waiting_sets_are_tested.Goals as goal

pub returns : goal.returns
returns c = sets_tested
