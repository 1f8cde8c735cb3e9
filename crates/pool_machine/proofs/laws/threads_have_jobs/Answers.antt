use Rattle.pool_machine.proofs.ReachedLaws.{threads_have_made}
use Rattle.pool_machine.proofs.laws.threads_have_jobs.Goals as goal

pub returns : goal.returns
returns c = threads_have_made
