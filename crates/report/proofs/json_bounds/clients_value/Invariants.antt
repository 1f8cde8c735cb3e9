-- The values so far and those of the remaining shares are all values.
use Rattle.std.proofs.Common.{◌≡◌}
use Rattle.report.specs.JsonPools.{client_share}
use Rattle.report.proofs.JsonLists.{with_rest_of}
use Rattle.report.proofs.Rows.{rest_of}
use Rattle.report.proofs.json_bounds.clients_value.Given as goal

abbrev pub invariant-loop-kind : goal.invariant-loop-kind
invariant-loop-kind l = with_rest_of (client_share l.plan) l.shares l.kind l.values.items ≡ rest_of (client_share l.plan) l.shares 0
