use Rattle.soundness.proofs.ReachedLaws.{sum_never_rises}
use Rattle.soundness.proofs.weight_laws.sum_never_rises.Goals as goal

pub returns : goal.returns
returns c = sum_never_rises
