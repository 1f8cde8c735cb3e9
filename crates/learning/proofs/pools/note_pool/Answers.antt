use Rattle.std.proofs.Common.{◌++◌, ◌∷◌, arith}
use Rattle.recordings.specs.RecordingLine.{line_view}
use Rattle.learning.proofs.Firsts.{no_fewer_pools}
use Rattle.learning.proofs.pools.note_pool.Goals as goal

pub returns-in-Pool-clause-err : goal.returns-in-Pool-clause-err
returns-in-Pool-clause-err c = λ before after pools.
    let no_fewer = no_fewer_pools before after (line_view c.args.line.now) c.args.pools.now.items pools in
    c.add_pool.ensures.err (before ++ line_view c.args.line.now ∷ after) (grind (arith, no_fewer, c.in-Pool.is))
