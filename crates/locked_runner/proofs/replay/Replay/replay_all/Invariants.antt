-- The events so far were replayed.
use Rattle.std.proofs.Common.{take}
use Rattle.locked_runner.specs.Replayed.{IsReplayedAs}
use Rattle.locked_runner.proofs.replay.Replay.replay_all.Given as goal

abbrev pub invariant-loop-event : goal.invariant-loop-event
invariant-loop-event l = IsReplayedAs l.plan (take l.event-index l.history) l.self.world l.self.pools.items l.self.units
