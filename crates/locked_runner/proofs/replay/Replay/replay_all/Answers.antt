use Rattle.std.proofs.Common.{take}
use Rattle.locked_runner.proofs.Replays.{ends_here}
use Rattle.locked_runner.proofs.replay.Replay.replay_all.Goals as goal

pub returns-then-not-branch-clause-ends : goal.returns-then-not-branch-clause-ends
returns-then-not-branch-clause-ends c = λ _ legal.
    ends_here c.args.plan.now c.args.history.now c.loop-event.event-index _ c.replay_event.new.self.world c.replay_event.new.self.pools.items c.replay_event.new.self.units c.in_ok-replay_event.field-0 c.loop-event-test.true c.if-not-branch.true
    (c.in_ok-replay_event.ensures.made (take c.loop-event.event-index c.args.history.now) c.loop-event.invariant) legal
