-- The nodes so far, and those of the remaining actions, are all nodes.
use Rattle.std.proofs.Common.{◌≡◌, ◌++◌, drop}
use Rattle.size_search.specs.JobGraphs.{submits_of}
use Rattle.size_search.proofs.job_graphs.push_submits.Given as goal

abbrev pub invariant-loop-action : goal.invariant-loop-action
invariant-loop-action l = l.nodes.items ++ submits_of (drop l.action-index l.body) ≡ l.initial.nodes.items ++ submits_of l.body
