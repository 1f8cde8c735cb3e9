use Rattle.std.proofs.Common.{length}
use Rattle.sizing_cli.proofs.Splitting.{HasNoLaterSeparator}
use Rattle.sizing_cli.proofs.bundle.bundle_of.Given as goal

abbrev pub invariant-loop-percent : goal.invariant-loop-percent
invariant-loop-percent l = HasNoLaterSeparator l.input l.front

abbrev pub decreases-loop-percent : goal.decreases-loop-percent
decreases-loop-percent l = length l.front
