-- There is one place for each action before the current index.
use Rattle.std.proofs.Common.{◌≡◌, length}
use Rattle.diagnostics.proofs.entry_places.body_places.Given as goal

abbrev pub invariant-loop-action : goal.invariant-loop-action
invariant-loop-action l = length l.actions.items ≡ l.action
