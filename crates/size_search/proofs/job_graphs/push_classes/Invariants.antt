-- The graph has the classes before this one.
use Rattle.std.proofs.Common.{◌≡◌, ◌++◌, map, take}
use Rattle.size_search.specs.JobGraphs.{class_waits}
use Rattle.size_search.proofs.job_graphs.push_classes.Given as goal

abbrev pub invariant-loop-number : goal.invariant-loop-number
invariant-loop-number l = l.graph ≡ l.initial.graph ++ map (class_waits l.plan) (take l.number l.plan.classes)
