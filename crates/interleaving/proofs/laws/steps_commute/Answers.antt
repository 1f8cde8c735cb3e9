use Rattle.interleaving.proofs.Reached.{commutes}
use Rattle.interleaving.proofs.laws.steps_commute.Goals as goal

pub returns : goal.returns
returns c = commutes
