-- The queues of the earlier pools are large enough, so the result is that for the remaining pools.
use Rattle.std.proofs.Common.{◌≡◌}
use Rattle.size_search.proofs.Loops.{rest_tight}
use Rattle.size_search.proofs.fit.tight_queue.Given as goal

abbrev pub invariant-loop-number : goal.invariant-loop-number
invariant-loop-number l = rest_tight l.plan l.cert l.raised l.number ≡ rest_tight l.plan l.cert l.raised 0
