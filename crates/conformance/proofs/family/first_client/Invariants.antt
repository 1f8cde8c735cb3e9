use Rattle.std.proofs.Common.{◌≡◌, filter, []}
use Rattle.std.specs.List.{range_with_len}
use Rattle.conformance.specs.Family.{is_client_in_family}
use Rattle.conformance.proofs.family.first_client.Given as goal

abbrev pub invariant-loop-client : goal.invariant-loop-client
invariant-loop-client l = filter (is_client_in_family l.plan l.label) (range_with_len 0 l.client) ≡ []
