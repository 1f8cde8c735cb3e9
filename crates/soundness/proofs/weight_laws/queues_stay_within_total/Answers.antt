use Rattle.soundness.proofs.ReachedLaws.{queues_stay_within_total}
use Rattle.soundness.proofs.weight_laws.queues_stay_within_total.Goals as goal

pub returns : goal.returns
returns c = queues_stay_within_total
