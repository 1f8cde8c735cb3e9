use Rattle.std.proofs.Common.{◌≡◌, map, take}
use Rattle.conformance.proofs.ComparisonsAfter.{first_kept}
use Rattle.conformance.proofs.round_comparison.RoundComparison.new.Given as goal

abbrev pub invariant-loop-client : goal.invariant-loop-client
invariant-loop-client l = l.kinds.items ≡ map first_kept (take l.client-index l.client-items)
