use Rattle.soundness.proofs.ReachedLaws.{bounds_refuse_nothing}
use Rattle.soundness.proofs.weight_laws.bounds_refuse_nothing.Goals as goal

pub returns : goal.returns
returns c = bounds_refuse_nothing
