use Rattle.interleaving.proofs.Reached.{sets_seen}
use Rattle.interleaving.proofs.laws.waiting_sets_are_seen.Goals as goal

pub returns : goal.returns
returns c = sets_seen
