use Rattle.soundness.proofs.Draining.{full_is_whole}
use Rattle.soundness.proofs.starvation_laws.full_is_whole.Goals as goal

pub returns : goal.returns
returns c = full_is_whole
