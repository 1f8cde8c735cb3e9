use Rattle.counterexample.proofs.Accepted.{not_accepted}
use Rattle.counterexample.proofs.laws.witnessed_plans_are_not_accepted.Goals as goal

pub returns : goal.returns
returns c = not_accepted
