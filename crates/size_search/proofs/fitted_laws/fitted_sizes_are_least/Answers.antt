use Rattle.size_search.proofs.LeastSizes.{fitted_sizes_are_least}
use Rattle.size_search.proofs.fitted_laws.fitted_sizes_are_least.Goals as goal

pub returns : goal.returns
returns c = fitted_sizes_are_least
