use Rattle.soundness.proofs.NeverRejects.{accepted_bounds_never_reject}
use Rattle.soundness.proofs.acceptance_laws.accepted_bounds_never_reject.Goals as goal

pub returns : goal.returns
returns c = accepted_bounds_never_reject
