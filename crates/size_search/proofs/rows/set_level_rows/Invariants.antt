-- The classes of lower levels, and those of this level before this class, have their rows.
use Rattle.size_search.specs.ComputedRows.{IsComputedUpTo}
use Rattle.size_search.proofs.rows.set_level_rows.Given as goal

abbrev pub invariant-loop-number : goal.invariant-loop-number
invariant-loop-number l = IsComputedUpTo l.plan l.jobs l.level l.number
