-- The replies of a world, and the answer after some of the event lines. A world is the view of a state, and several states can
-- have the same view. A statement of a world concerns each reachable state with this view.
use Rattle.std.specs.Prelude.{◌≡◌, ℕ, List, Option, Some, None}
use Rattle.job_bodies.specs.Plan.{Plan}
use Rattle.pool_machine.specs.State.{State}
use Rattle.pool_machine.specs.Reach.{IsReached}
use Rattle.interleaving.specs.LiveView.{View, live_view}
use Rattle.interleaving.specs.declared.reply.Reply.{Reply}
use Rattle.interleaving.specs.EventLine.{Line, all_from}
use Rattle.sizing_cli.specs.Answer.{Answer, followed_by, bad_event}
use Rattle.sizing_cli.specs.Report.{replay_of_lines}
use Rattle.sizing_cli.specs.Transcript.{ending, reply_to}

-- `whole` is the answer `front`, followed by the last line of a replay that ends in this world and in which `rejected` jobs
-- were rejected.
abbrev pub IsWithEnding : Plan → View → ℕ → Answer → Answer → Type 0
IsWithEnding plan world rejected front whole = (s : State) → IsReached plan s → live_view plan s ≡ world → whole ≡ followed_by front (ending plan s rejected)

-- the state is reachable, has this view, and gives this reply
abbrev pub RepliesIn : Plan → State × Reply → View → Reply → Type 0
RepliesIn plan x after reply = IsReached plan x.0 × (live_view plan x.0 ≡ after) × (x.1 ≡ reply)

-- in the world `before`, the reply to the line is `reply`, and the world after the line is `after`
abbrev pub RepliesToLine : Plan → View → View → Line → Reply → Type 0
RepliesToLine plan before after line reply = (s : State) → IsReached plan s → live_view plan s ≡ before → RepliesIn plan (reply_to plan s line) after reply

-- The outcome of replaying the lines. If no line is malformed, `answer` has all replies, and only the last line of the replay
-- is missing. Otherwise the outcome is the number of the first malformed line.
abbrev pub IsTranscribed : Plan → List (Option Line) → View → ℕ → Answer → Option ℕ → Type 0
IsTranscribed plan lines world rejected answer None =
    (whole : Answer) → IsWithEnding plan world rejected answer whole → whole ≡ replay_of_lines plan (all_from 0 lines)
IsTranscribed plan lines world rejected answer (Some bad) = bad_event bad ≡ replay_of_lines plan (all_from 0 lines)
