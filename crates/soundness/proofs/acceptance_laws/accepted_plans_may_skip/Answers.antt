use Rattle.soundness.proofs.Skipping.{accepted_plans_may_skip}
use Rattle.soundness.proofs.acceptance_laws.accepted_plans_may_skip.Goals as goal

pub returns : goal.returns
returns c = accepted_plans_may_skip
