use Rattle.soundness.proofs.JavaTheorem.{accepted_plans_make_java_progress}
use Rattle.soundness.proofs.acceptance_laws.accepted_plans_make_java_progress.Goals as goal

pub returns : goal.returns
returns c = accepted_plans_make_java_progress
