use Rattle.std.proofs.Common.{length}
use Rattle.sizing_cli.proofs.FirstSeparator.{IsReadTo}
use Rattle.sizing_cli.proofs.bundle.first_bundle_of.Given as goal

abbrev pub invariant-loop-second : goal.invariant-loop-second
invariant-loop-second l = IsReadTo l.input l.rest

abbrev pub decreases-loop-second : goal.decreases-loop-second
decreases-loop-second l = length l.rest
