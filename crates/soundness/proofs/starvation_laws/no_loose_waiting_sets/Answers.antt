use Rattle.soundness.proofs.Descent.{no_loose_waiting_sets}
use Rattle.soundness.proofs.starvation_laws.no_loose_waiting_sets.Goals as goal

pub returns : goal.returns
returns c = no_loose_waiting_sets
