-- The classes of all levels below this one have their rows.
use Rattle.size_search.specs.ComputedRows.{IsComputedUpTo}
use Rattle.size_search.proofs.rows.jobs_of.Given as goal

abbrev pub invariant-loop-level : goal.invariant-loop-level
invariant-loop-level l = IsComputedUpTo l.plan l.jobs l.level 0
