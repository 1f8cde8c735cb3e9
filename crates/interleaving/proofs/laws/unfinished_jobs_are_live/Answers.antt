use Rattle.interleaving.proofs.Reached.{unfinished}
use Rattle.interleaving.proofs.laws.unfinished_jobs_are_live.Goals as goal

pub returns : goal.returns
returns c = unfinished
