use Rattle.soundness.proofs.JavaTheorem.{accepted_plans_are_java_safe}
use Rattle.soundness.proofs.acceptance_laws.accepted_plans_are_java_safe.Goals as goal

pub returns : goal.returns
returns c = accepted_plans_are_java_safe
