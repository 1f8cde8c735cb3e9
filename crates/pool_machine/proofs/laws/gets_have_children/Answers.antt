use Rattle.pool_machine.proofs.ReachedLaws.{children_at_gets}
use Rattle.pool_machine.proofs.laws.gets_have_children.Goals as goal

pub returns : goal.returns
returns c = children_at_gets
