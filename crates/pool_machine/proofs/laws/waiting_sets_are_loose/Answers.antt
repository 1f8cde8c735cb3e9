use Rattle.pool_machine.proofs.LooseWaitingSets.{waiting_sets_are_loose}
use Rattle.pool_machine.proofs.laws.waiting_sets_are_loose.Goals as goal

pub returns : goal.returns
returns c = waiting_sets_are_loose
