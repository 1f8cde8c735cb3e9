use Rattle.soundness.proofs.Skipping.{accepted_plans_make_progress_with_skips}
use Rattle.soundness.proofs.acceptance_laws.accepted_plans_make_progress_with_skips.Goals as goal

pub returns : goal.returns
returns c = accepted_plans_make_progress_with_skips
