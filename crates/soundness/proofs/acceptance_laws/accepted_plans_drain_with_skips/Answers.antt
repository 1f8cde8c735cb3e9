use Rattle.soundness.proofs.SkippingDrains.{accepted_plans_drain_with_skips}
use Rattle.soundness.proofs.acceptance_laws.accepted_plans_drain_with_skips.Goals as goal

pub returns : goal.returns
returns c = accepted_plans_drain_with_skips
