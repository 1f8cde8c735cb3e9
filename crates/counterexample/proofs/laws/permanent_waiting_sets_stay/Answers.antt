use Rattle.counterexample.proofs.PermanentSets.{permanent_sets_stay}
use Rattle.counterexample.proofs.laws.permanent_waiting_sets_stay.Goals as goal

pub returns : goal.returns
returns c = permanent_sets_stay
