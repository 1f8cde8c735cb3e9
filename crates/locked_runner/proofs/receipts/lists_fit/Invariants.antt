-- All lists fit exactly when the remaining ones fit.
use Rattle.std.proofs.Common.{◌↔◌, drop, map}
use Rattle.locked_runner.specs.Receipts.{AreListsOf}
use Rattle.locked_runner.proofs.receipts.lists_fit.Given as goal

abbrev pub invariant-loop-at : goal.invariant-loop-at
invariant-loop-at l = AreListsOf l.plan l.history (drop l.at l.of_lists) (map (λ list. list.items) (drop l.at l.lists)) ↔ AreListsOf l.plan l.history l.of_lists (map (λ list. list.items) l.lists)
