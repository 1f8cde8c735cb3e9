use Rattle.size_search.proofs.BeyondSizes.{no_sizes_help}
use Rattle.size_search.proofs.existence_laws.no_sizes_help.Goals as goal

pub returns : goal.returns
returns c = no_sizes_help
