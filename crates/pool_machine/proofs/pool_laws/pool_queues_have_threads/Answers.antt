use Rattle.pool_machine.proofs.Invariance.{queues_have_threads_kept}
use Rattle.pool_machine.proofs.pool_laws.pool_queues_have_threads.Goals as goal

pub returns-clause-kept : goal.returns-clause-kept
returns-clause-kept c = queues_have_threads_kept
