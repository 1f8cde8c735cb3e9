use Rattle.soundness.proofs.CountedGets.{fewer_than_core_may_block}
use Rattle.soundness.proofs.starvation_laws.fewer_than_core_may_block.Goals as goal

pub returns : goal.returns
returns c = fewer_than_core_may_block
