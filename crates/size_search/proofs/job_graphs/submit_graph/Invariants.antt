-- The graph has the classes before this one.
use Rattle.std.proofs.Common.{◌≡◌, map, take}
use Rattle.job_bodies.specs.Plan.{Class}
use Rattle.size_search.specs.JobGraphs.{submits_of}
use Rattle.size_search.proofs.job_graphs.submit_graph.Given as goal

abbrev pub invariant-loop-class : goal.invariant-loop-class
invariant-loop-class l = l.graph ≡ map (λ (class : Class). submits_of class.body) (take l.class-index l.plan.classes)
