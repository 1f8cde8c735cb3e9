use Rattle.report.proofs.Unchanged.{unchanged}
use Rattle.report.proofs.size_laws.unchanged_sizes_are_the_declared_plan.Goals as goal

pub returns : goal.returns
returns c = unchanged
