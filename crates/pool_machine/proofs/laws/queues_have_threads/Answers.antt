use Rattle.pool_machine.proofs.ReachedLaws.{queues_have_threads}
use Rattle.pool_machine.proofs.laws.queues_have_threads.Goals as goal

pub returns : goal.returns
returns c = queues_have_threads
