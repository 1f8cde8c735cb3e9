use Rattle.std.proofs.Common.{[]}
use Rattle.weights.proofs.vector.Vector.standing_fault.Goals as goal

pub returns : goal.returns
returns c = c.visit_standing_rows.ensures.extends [] c.new-first.ensures
