-- The earlier pools are valid, so the result is that for the remaining pools.
use Rattle.std.proofs.Common.{◌≡◌}
use Rattle.size_search.proofs.Loops.{rest_unfit}
use Rattle.size_search.proofs.fit_error.unfit_pools.Given as goal

abbrev pub invariant-loop-number : goal.invariant-loop-number
invariant-loop-number l = rest_unfit l.pools l.number ≡ rest_unfit l.pools 0
