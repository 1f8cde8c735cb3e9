-- The nodes so far, and those of the remaining classes, are all nodes.
use Rattle.std.proofs.Common.{◌≡◌, ◌++◌, flat_map, drop}
use Rattle.std.specs.List.{enumerate_from}
use Rattle.size_search.specs.JobGraphs.{marked_gets}
use Rattle.size_search.proofs.job_graphs.marked_gets.Given as goal

abbrev pub invariant-loop-number : goal.invariant-loop-number
invariant-loop-number l = l.nodes.items ++ flat_map (marked_gets l.marks l.pool) (enumerate_from l.number (drop l.number l.plan.classes)) ≡ flat_map (marked_gets l.marks l.pool) (enumerate_from 0 l.plan.classes)
