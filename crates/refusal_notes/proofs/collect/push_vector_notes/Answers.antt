use Rattle.std.proofs.Common.{[]}
use Rattle.weights.specs.Bound.{bound_rows}
use Rattle.refusal_notes.proofs.collect.push_vector_notes.Goals as goal

pub returns : goal.returns
returns c =
    let seen = c.visit_rows.ensures.extends [] c.new-found.ensures.none in
    rw (← c.section_of.ensures) (c.push_notes.ensures (bound_rows c.args.plan.now c.args.pool c.args.bound.now) seen)
