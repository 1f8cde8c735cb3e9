use Rattle.soundness.proofs.ReachedLaws.{jobs_stay_within_total}
use Rattle.soundness.proofs.weight_laws.jobs_stay_within_total.Goals as goal

pub returns : goal.returns
returns c = jobs_stay_within_total
