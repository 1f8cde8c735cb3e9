use Rattle.std.proofs.Common.{arith}
use Rattle.conformance.proofs.StoppedWalks.{cannot_at_end}
use Rattle.conformance.proofs.walk_state.WalkState.can_submit.Goals as goal

pub returns-clause-cannot : goal.returns-clause-cannot
returns-clause-cannot c = λ _. cannot_at_end c.args.body.now c.args.class c.loop-index.index c.args.self.now (omega (arith, c.loop-index-test.false, c.loop-index.auto.index-end)) c.loop-index.invariant
