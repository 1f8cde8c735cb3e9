use Rattle.soundness.proofs.Theorem.{accepted_plans_make_progress}
use Rattle.soundness.proofs.acceptance_laws.accepted_plans_make_progress.Goals as goal

pub returns : goal.returns
returns c = accepted_plans_make_progress
