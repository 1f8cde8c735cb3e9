use Rattle.size_search.proofs.SizesExist.{sizes_exist}
use Rattle.size_search.proofs.existence_laws.sizes_exist.Goals as goal

pub returns : goal.returns
returns c = sizes_exist
