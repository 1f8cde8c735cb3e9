use Rattle.soundness.proofs.JavaDrains.{accepted_plans_java_drain}
use Rattle.soundness.proofs.acceptance_laws.accepted_plans_java_drain.Goals as goal

pub returns : goal.returns
returns c = accepted_plans_java_drain
