use Rattle.size_search.proofs.WithoutPools.{too_large_for_a_pool}
use Rattle.size_search.proofs.fit_steady.too_large.Goals as goal

pub pool-requires : goal.pool-requires
pool-requires c = too_large_for_a_pool c.args.plan.now c.requires.well_formed c.requires.large
