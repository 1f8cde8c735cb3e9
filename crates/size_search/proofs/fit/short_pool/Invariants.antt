-- The earlier pools have enough threads, so the result is that for the remaining pools.
use Rattle.std.proofs.Common.{◌≡◌}
use Rattle.size_search.proofs.Loops.{rest_short}
use Rattle.size_search.proofs.fit.short_pool.Given as goal

abbrev pub invariant-loop-number : goal.invariant-loop-number
invariant-loop-number l = rest_short l.plan l.cert l.raised l.number ≡ rest_short l.plan l.cert l.raised 0
