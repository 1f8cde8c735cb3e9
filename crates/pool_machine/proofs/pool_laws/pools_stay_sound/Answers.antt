use Rattle.pool_machine.proofs.Invariance.{sound_kept}
use Rattle.pool_machine.proofs.pool_laws.pools_stay_sound.Goals as goal

pub returns-clause-kept : goal.returns-clause-kept
returns-clause-kept c = sound_kept
