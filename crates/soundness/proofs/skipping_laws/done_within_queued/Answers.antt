use Rattle.soundness.proofs.Walks.{done_within_queued}
use Rattle.soundness.proofs.skipping_laws.done_within_queued.Goals as goal

pub returns : goal.returns
returns c = done_within_queued
