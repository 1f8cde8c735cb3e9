use Rattle.interleaving.proofs.Reached.{stays_dead}
use Rattle.interleaving.proofs.laws.dead_jobs_stay_dead.Goals as goal

pub returns : goal.returns
returns c = stays_dead
