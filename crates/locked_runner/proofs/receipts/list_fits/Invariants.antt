-- All receipts of the list fit exactly when the remaining ones fit.
use Rattle.std.proofs.Common.{◌↔◌, drop}
use Rattle.locked_runner.specs.Receipts.{AreReceiptsOf}
use Rattle.locked_runner.proofs.receipts.list_fits.Given as goal

abbrev pub invariant-loop-kept : goal.invariant-loop-kept
invariant-loop-kept l = AreReceiptsOf l.plan l.history l.owner l.low (drop l.kept-index l.list) ↔ AreReceiptsOf l.plan l.history l.owner 0 l.list
