use Rattle.pool_machine.proofs.ReachedLaws.{refusals_need_made}
use Rattle.pool_machine.proofs.laws.refusals_need_jobs.Goals as goal

pub returns : goal.returns
returns c = refusals_need_made
