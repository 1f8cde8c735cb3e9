-- The values so far and the remaining pools are all pools.
use Rattle.std.proofs.Common.{◌≡◌}
use Rattle.report.specs.JsonPools.{pool_entry}
use Rattle.report.proofs.JsonLists.{with_rest}
use Rattle.report.proofs.ShareSums.{rest_given}
use Rattle.report.proofs.json_pools.pools_value.Given as goal

abbrev pub invariant-loop-number : goal.invariant-loop-number
invariant-loop-number l = with_rest (pool_entry l.plan l.parts l.rejections) l.plan.pools l.number l.values.items ≡ rest_given (pool_entry l.plan l.parts l.rejections) l.plan.pools 0
