use Rattle.std.proofs.Common.{arith}
use Rattle.std.proofs.lemmas.Grind.{common_steps}
use Rattle.pool_machine.proofs.PoolEvents.{full_refuses, refused_exactly}
use Rattle.pool_machine.proofs.pool_laws.failure_conditions.Goals as goal

pub returns : goal.returns
returns c = λ pool sound. record {
  refuses = (refused_exactly pool sound, λ full. full_refuses pool sound.core_within_max full.0 full.1 full.2);
  takes_none = grind (arith, common_steps);
  ends_none = grind (arith, common_steps);
}
