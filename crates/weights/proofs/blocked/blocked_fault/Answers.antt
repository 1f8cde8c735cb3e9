use Rattle.std.proofs.Common.{[]}
use Rattle.weights.proofs.blocked.blocked_fault.Goals as goal

pub returns : goal.returns
returns g c = c.visit_blocked_rows.ensures.extends [] c.new-first.ensures
