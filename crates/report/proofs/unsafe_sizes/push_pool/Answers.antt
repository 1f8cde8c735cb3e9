use Rattle.report.proofs.Rows.{both_pushed}
use Rattle.report.proofs.unsafe_sizes.push_pool.Goals as goal

pub returns : goal.returns
returns c = both_pushed c.push_queue.result _ _ _ _ _ c.in_ok-push_core.ensures c.push_queue.ensures
