use Rattle.std.proofs.Common.{arith}
use Rattle.conformance.proofs.ReadStates.{same_by_each}
use Rattle.conformance.proofs.open_job.are_same.Goals as goal

pub returns-clause-same : goal.returns-clause-same
returns-clause-same c = λ _.
    let past = c.loop-index-test.false in
    same_by_each c.args.one.now c.args.other.now c.if-one-other.false (λ k d lt. c.loop-index.invariant k d (omega (arith, lt, past)))
