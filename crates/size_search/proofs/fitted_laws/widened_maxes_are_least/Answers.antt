use Rattle.size_search.proofs.LeastMaxes.{widened_maxes_are_least}
use Rattle.size_search.proofs.fitted_laws.widened_maxes_are_least.Goals as goal

pub returns : goal.returns
returns c = widened_maxes_are_least
