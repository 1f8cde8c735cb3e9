use Rattle.std.proofs.Common.{length}
use Rattle.sizing_cli.proofs.Answering.{IsReplayedUpTo}
use Rattle.sizing_cli.proofs.replay.push_replies.Given as goal

abbrev pub invariant-loop-line : goal.invariant-loop-line
invariant-loop-line l = IsReplayedUpTo l.plan l.fn.lines l.world.view l.rejected l.answer l.number l.is_over l.lines

abbrev pub decreases-loop-line : goal.decreases-loop-line
decreases-loop-line l = length l.lines
