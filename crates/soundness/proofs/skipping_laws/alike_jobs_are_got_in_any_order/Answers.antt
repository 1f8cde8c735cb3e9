use Rattle.soundness.proofs.AnyOrder.{alike_jobs_are_got_in_any_order}
use Rattle.soundness.proofs.skipping_laws.alike_jobs_are_got_in_any_order.Goals as goal

pub returns : goal.returns
returns c = alike_jobs_are_got_in_any_order
