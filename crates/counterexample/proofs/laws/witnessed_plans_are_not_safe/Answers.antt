use Rattle.counterexample.proofs.Accepted.{not_safe}
use Rattle.counterexample.proofs.laws.witnessed_plans_are_not_safe.Goals as goal

pub returns : goal.returns
returns c = not_safe
