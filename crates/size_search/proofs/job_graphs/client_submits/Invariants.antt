-- The list has the submits of the client kinds before this one.
use Rattle.std.proofs.Common.{◌≡◌, flat_map, take}
use Rattle.size_search.specs.JobGraphs.{submits_of_client}
use Rattle.size_search.proofs.job_graphs.client_submits.Given as goal

abbrev pub invariant-loop-client : goal.invariant-loop-client
invariant-loop-client l = l.nodes.items ≡ flat_map (submits_of_client l.repeating) (take l.client-index l.plan.clients)
