-- The values so far and the remaining pools are all pools.
use Rattle.std.proofs.Common.{◌≡◌}
use Rattle.report.specs.JsonSizes.{size_entry}
use Rattle.report.proofs.JsonLists.{with_rest}
use Rattle.report.proofs.ShareSums.{rest_given}
use Rattle.report.proofs.json_sizes.pools_value.Given as goal

abbrev pub invariant-loop-number : goal.invariant-loop-number
invariant-loop-number l = with_rest (size_entry l.places l.plan) l.fitted l.number l.values.items ≡ rest_given (size_entry l.places l.plan) l.fitted 0
