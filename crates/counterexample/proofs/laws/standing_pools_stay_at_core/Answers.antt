use Rattle.counterexample.proofs.StandingPools.{stays_at_core}
use Rattle.counterexample.proofs.laws.standing_pools_stay_at_core.Goals as goal

pub returns : goal.returns
returns c = stays_at_core
