use Rattle.std.proofs.Common.{arith}
use Rattle.size_search.proofs.Computations.{greatest-open-bound}
use Rattle.size_search.proofs.body.most.Goals as goal

pub returns-clause-bound : goal.returns-clause-bound
returns-clause-bound c =
    omega (arith, c.loop-position.invariant.most, greatest-open-bound c.args.plan.now c.args.vector.now c.args.body.now c.loop-position.position c.requires.valid c.requires.small c.loop-position.auto.position-end)
