use Rattle.size_search.proofs.LeastSizes.{larger_sizes_are_accepted}
use Rattle.size_search.proofs.fitted_laws.larger_sizes_are_accepted.Goals as goal

pub returns : goal.returns
returns c = larger_sizes_are_accepted
