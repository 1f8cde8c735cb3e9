use Rattle.soundness.proofs.JavaBounded.{bounded_plans_java_refuse_nothing}
use Rattle.soundness.proofs.acceptance_laws.bounded_plans_java_refuse_nothing.Goals as goal

pub returns : goal.returns
returns c = bounded_plans_java_refuse_nothing
