use Rattle.soundness.proofs.ReachedLaws.{sum_stays_within_total}
use Rattle.soundness.proofs.weight_laws.sum_stays_within_total.Goals as goal

pub returns : goal.returns
returns c = sum_stays_within_total
