-- The values so far and those of the remaining shares are all values.
use Rattle.std.proofs.Common.{◌≡◌}
use Rattle.report.specs.JsonPools.{thread_share}
use Rattle.report.proofs.JsonLists.{with_rest_of}
use Rattle.report.proofs.Rows.{rest_of}
use Rattle.report.proofs.json_bounds.threads_value.Given as goal

abbrev pub invariant-loop-pool : goal.invariant-loop-pool
invariant-loop-pool l = with_rest_of (thread_share l.plan) l.shares l.pool l.values.items ≡ rest_of (thread_share l.plan) l.shares 0
