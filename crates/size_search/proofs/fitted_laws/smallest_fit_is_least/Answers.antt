use Rattle.size_search.proofs.SmallestPlans.{smallest_fit_is_least}
use Rattle.size_search.proofs.fitted_laws.smallest_fit_is_least.Goals as goal

pub returns : goal.returns
returns c = smallest_fit_is_least
