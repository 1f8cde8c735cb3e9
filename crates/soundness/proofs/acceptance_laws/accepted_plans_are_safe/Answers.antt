use Rattle.soundness.proofs.Theorem.{accepted_plans_are_safe}
use Rattle.soundness.proofs.acceptance_laws.accepted_plans_are_safe.Goals as goal

pub returns : goal.returns
returns c = accepted_plans_are_safe
