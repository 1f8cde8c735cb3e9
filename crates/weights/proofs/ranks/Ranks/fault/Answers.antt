use Rattle.std.proofs.Common.{[]}
use Rattle.weights.proofs.ranks.Ranks.fault.Goals as goal

pub returns : goal.returns
returns c = c.visit_rank_rows.ensures.extends [] c.new-first.ensures
