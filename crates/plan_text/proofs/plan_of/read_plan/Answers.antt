use Rattle.plan_text.proofs.ReadSizes.{read_is_effective}
use Rattle.plan_text.proofs.plan_of.read_plan.Goals as goal

pub returns-in-Ok-clause-effective : goal.returns-in-Ok-clause-effective
returns-in-Ok-clause-effective c = read_is_effective c.args.bytes.now c.in-Ok.plan c.in-Ok.ensures
