-- The answer of a replay. It is defined by the steps of the machine (`pool_machine`) from a state, and by the waiting sets.
use Rattle.std.specs.Prelude.{ℕ, suc, ◌+◌, Bool, true, false, if◌then◌else◌, List, [], ◌∷◌, count_by, Option, Some, None}
use Rattle.job_bodies.specs.Plan.{Plan}
use Rattle.pool_machine.specs.declared.event.Outcome.{Outcome}
use Rattle.pool_machine.specs.declared.event.Outcome.TheVariants as outcome
use Rattle.pool_machine.specs.State.{State, is_unfinished}
use Rattle.pool_machine.specs.Step.{step}
use Rattle.pool_machine.specs.Waiting.{is_waiting_set}
use Rattle.interleaving.specs.declared.reply.Reply.{Reply}
use Rattle.interleaving.specs.declared.reply.Reply.TheVariants as reply
use Rattle.interleaving.specs.EventLine.{Line, Perform, Stuck}
use Rattle.interleaving.specs.Reply.{reply_text, numbered, summary}
use Rattle.locked_runner.specs.Limits.{may_reject}
use Rattle.sizing_cli.specs.declared.status.Status.TheVariants.{Done, Refused}
use Rattle.sizing_cli.specs.Answer.{Answer, followed_by}

-- a job was refused
abbrev pub is_refusal : Outcome → Bool
is_refusal (outcome.Refused p) = true
is_refusal _ = false

-- whether this reply makes the status of the whole answer a no
abbrev pub is_no : Reply → Bool
is_no (reply.Performed outcome) = is_refusal outcome
is_no reply.NotPossible = true
is_no (reply.Stuck stuck) = stuck

-- no line is replayed after this reply
abbrev pub is_last : Reply → Bool
is_last reply.NotPossible = true
is_last _ = false

-- the line with the reply to the event line with this number, and its status
abbrev pub reply_answer : Plan → ℕ → Reply → Answer
reply_answer plan number reply = record { text = numbered number (reply_text plan reply); status = if is_no reply then Refused else Done }

abbrev pub unfinished : State → ℕ
unfinished s = count_by (λ job. is_unfinished job.stage) s.jobs

-- a job was rejected as the plan allows
abbrev pub is_rejection : Reply → Bool
is_rejection (reply.Performed (outcome.Rejected p j)) = true
is_rejection _ = false

-- the number of rejected jobs after the reply, given their number before it
abbrev pub count_rejection : Reply → ℕ → ℕ
count_rejection reply rejected = if is_rejection reply then suc rejected else rejected

-- the number of rejected jobs that the last line shows; None if no pool of the plan may reject jobs
abbrev pub shown_rejections : Plan → ℕ → Option ℕ
shown_rejections plan rejected = if may_reject plan then Some rejected else None

-- the last line of a replay that ends in state s and in which `rejected` jobs were rejected
abbrev pub ending : Plan → State → ℕ → Answer
ending plan s rejected = record { text = summary s.refusals (shown_rejections plan rejected) (unfinished s); status = Done }

-- the state after an event, and the reply to it
abbrev pub event_reply : State → Option (State × Outcome) → State × Reply
event_reply s None = (s, reply.NotPossible)
event_reply s (Some x) = (x.0, reply.Performed x.1)

-- the state after a line, and the reply to it
abbrev pub reply_to : Plan → State → Line → State × Reply
reply_to plan s (Perform event) = event_reply s (step plan s event)
reply_to plan s (Stuck members) = (s, reply.Stuck (is_waiting_set plan s members))

-- The answer that begins with this reply. If no line is replayed after it, only the last line of the replay follows. Otherwise
-- `rest` follows. Before the reply, `rejected` jobs were rejected.
abbrev pub reply_then : Plan → ℕ → ℕ → State × Reply → (State → ℕ → Answer) → Answer
reply_then plan rejected number x rest =
    let rejected' = count_rejection x.1 rejected in
    followed_by (reply_answer plan number x.1) (if is_last x.1 then ending plan x.0 rejected' else rest x.0 rejected')

-- The replay of the lines from state s. The first of these lines has the number `number`. Before it, `rejected` jobs were
-- rejected.
abbrev pub transcript : Plan → State → ℕ → ℕ → List Line → Answer
transcript plan s rejected number [] = ending plan s rejected
transcript plan s rejected number (line ∷ lines) = reply_then plan rejected number (reply_to plan s line) (λ s' rejected'. transcript plan s' rejected' (number + 1) lines)
