use Rattle.std.proofs.Common.{append_assoc}
use Rattle.interleaving.proofs.reply.push_outcome.Goals as goal

pub returns-in-Started : goal.returns-in-Started
returns-in-Started c = rw c.in-Started.is c.push_counted.ensures

pub returns-in-Finished : goal.returns-in-Finished
returns-in-Finished c = rw c.in-Finished.is c.push_counted-in-Finished.ensures

pub returns-in-Rejected : goal.returns-in-Rejected
returns-in-Rejected c = rw c.in-Rejected.is (simp append_assoc (rw c.pool_name-pool.ensures at c.write.ensures.bytes))
