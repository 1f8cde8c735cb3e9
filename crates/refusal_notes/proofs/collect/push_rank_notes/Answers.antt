use Rattle.std.proofs.Common.{[]}
use Rattle.weights.specs.Ranks.{rank_rows}
use Rattle.refusal_notes.proofs.collect.push_rank_notes.Goals as goal

pub returns : goal.returns
returns c = c.push_notes.ensures (rank_rows c.args.plan.now c.args.ranks.now) (c.visit_rank_rows.ensures.extends [] c.new-found.ensures.none)
