use Rattle.soundness.proofs.Draining.{full_is_of_the_plan}
use Rattle.soundness.proofs.starvation_laws.full_is_of_the_plan.Goals as goal

pub returns : goal.returns
returns c = full_is_of_the_plan
