use Rattle.std.proofs.Common.{[]}
use Rattle.weights.proofs.vector.Vector.lifetime_fault.Goals as goal

pub returns : goal.returns
returns c = c.visit_lifetime_rows.ensures.extends [] c.new-first.ensures
