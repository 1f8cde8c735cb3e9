use Rattle.interleaving.proofs.Reached.{starts_seen}
use Rattle.interleaving.proofs.laws.start_is_seen.Goals as goal

pub returns : goal.returns
returns c = starts_seen
