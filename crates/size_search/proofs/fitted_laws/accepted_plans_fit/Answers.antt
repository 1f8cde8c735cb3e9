use Rattle.size_search.proofs.LeastSizes.{accepted_plans_fit}
use Rattle.size_search.proofs.fitted_laws.accepted_plans_fit.Goals as goal

pub returns : goal.returns
returns c = accepted_plans_fit
