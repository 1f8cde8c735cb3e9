-- There is one place for each pool before the current index.
use Rattle.std.proofs.Common.{◌≡◌, length}
use Rattle.diagnostics.proofs.entry_places.pool_places.Given as goal

abbrev pub invariant-loop-index : goal.invariant-loop-index
invariant-loop-index l = length l.found.items ≡ l.index
