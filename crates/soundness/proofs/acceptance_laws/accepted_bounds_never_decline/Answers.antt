use Rattle.soundness.proofs.NeverRejects.{accepted_bounds_never_decline}
use Rattle.soundness.proofs.acceptance_laws.accepted_bounds_never_decline.Goals as goal

pub returns : goal.returns
returns c = accepted_bounds_never_decline
