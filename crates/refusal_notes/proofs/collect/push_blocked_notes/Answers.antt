use Rattle.std.proofs.Common.{[]}
use Rattle.weights.specs.Blocked.{blocked_rows}
use Rattle.weights.specs.Ranks.{is_counted}
use Rattle.refusal_notes.proofs.collect.push_blocked_notes.Goals as goal

pub returns : goal.returns
returns c =
    let seen = rw (c.new-counted.ensures.plan, c.new-counted.ensures.ranks) at (c.visit_blocked_rows.ensures.extends [] c.new-found.ensures.none) in
    c.push_notes.ensures (blocked_rows c.args.plan.now c.args.pool (is_counted c.args.plan.now c.args.ranks.now) c.args.blocked.now) seen
