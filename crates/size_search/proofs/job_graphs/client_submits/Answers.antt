use Rattle.std.proofs.Common.{arith}
use Rattle.std.proofs.lemmas.Grind.{common_steps}
use Rattle.size_search.proofs.job_graphs.client_submits.Goals as goal

pub loop-client-preserved : goal.loop-client-preserved
loop-client-preserved c = grind (arith, common_steps)
