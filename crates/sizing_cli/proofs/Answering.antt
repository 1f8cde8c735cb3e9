-- The answer to event lines, one line at a time.
use Rattle.std.proofs.Common.{◌≡◌, ℕ, ◌+◌, Bool, true, false, if◌then◌else◌, cond, List, [], ◌∷◌, ◌++◌, length, Option, Some, None, Result, Ok, Err, IfOk, refl, sym, ap, ap₂, ◌∙◌, append_assoc, arith}
use Rattle.support.specs.Reading.{◌>>=◌}
use Rattle.job_bodies.specs.Plan.{Plan}
use Rattle.pool_machine.specs.declared.event.Event.{Event}
use Rattle.pool_machine.specs.declared.event.Outcome.{Outcome}
use Rattle.pool_machine.specs.State.{State}
use Rattle.pool_machine.specs.Step.{step}
use Rattle.pool_machine.specs.Reach.{start, replay, state_after, IsReached}
use Rattle.interleaving.specs.LiveView.{View, live_view}
use Rattle.interleaving.specs.ViewAnswers.{AnswersAs}
use Rattle.interleaving.specs.declared.reply.Reply.{Reply}
use Rattle.interleaving.specs.declared.reply.Reply.TheVariants as reply
use Rattle.interleaving.specs.EventLine.{Line, all_from}
use Rattle.sizing_cli.specs.declared.status.Status.{Status}
use Rattle.sizing_cli.specs.declared.status.Status.TheVariants.{Done, Refused, BadText, Undecided}
use Rattle.sizing_cli.specs.Answer.{Answer, then_status, followed_by, bad_event}
use Rattle.sizing_cli.specs.Transcript.{is_last, reply_answer, event_reply, count_rejection, ending, reply_to, transcript}
use Rattle.sizing_cli.specs.Report.{replay_of_lines}
use Rattle.sizing_cli.specs.PartialTranscript.{IsWithEnding, RepliesIn, RepliesToLine}

-- ---- reachable states

replay-append : (plan : Plan) (s : Option State) (events : List Event) (e : Event) → replay plan s (events ++ e ∷ []) ≡ replay plan (replay plan s events) (e ∷ [])
replay-append plan s [] e = refl
replay-append plan None (x ∷ events) e = refl
replay-append plan (Some s) (x ∷ events) e = replay-append plan (state_after (step plan s x)) events e

reached_by_step : (plan : Plan) (s s' : State) (e : Event) (outcome : Outcome) → IsReached plan s → step plan s e ≡ Some (s', outcome) → IsReached plan s'
reached_by_step plan s s' e outcome reached happens =
    (reached.0 ++ e ∷ [], replay-append plan (Some (start plan)) reached.0 e ∙ (ap (λ (x : Option State). replay plan x (e ∷ [])) reached.1 ∙ ap (λ (x : Option (State × Outcome)). state_after x) happens))

-- ---- one reply

-- the answer of a world to an event is the reply to its line
pub replies_to_event : (plan : Plan) (s : State) (event : Event) (outcome : Outcome) (after : View) → IsReached plan s → AnswersAs plan s event (Some outcome) after
    → RepliesIn plan (event_reply s (step plan s event)) after (reply.Performed outcome)
replies_to_event plan s event outcome after reached answers =
    rw answers.1 (reached_by_step plan s answers.0 event outcome reached answers.1, sym answers.2, refl)

pub replies_not_possible : (plan : Plan) (s : State) (event : Event) (after : View) → IsReached plan s → AnswersAs plan s event None after
    → RepliesIn plan (event_reply s (step plan s event)) after reply.NotPossible
replies_not_possible plan s event after reached answers = rw answers.0 (reached, sym answers.1, refl)

-- ---- parts of an answer

then_status-assoc : (a b c : Status) → then_status (then_status a b) c ≡ then_status a (then_status b c)
then_status-assoc a b Done = refl
then_status-assoc a b Refused = refl
then_status-assoc a b BadText = refl
then_status-assoc a b Undecided = refl

followed_by-assoc : (a b c : Answer) → followed_by (followed_by a b) c ≡ followed_by a (followed_by b c)
followed_by-assoc a b c = ap₂ (λ (t : List ℕ) (s : Status). record { text = t; status = s }) (append_assoc a.text b.text c.text) (then_status-assoc a.status b.status c.status)

-- ---- the lines so far

-- the whole answer after `number` lines: the replay is over, or the remaining lines are replayed from this state
abbrev pub replay_behind : Plan → State → ℕ → Answer → ℕ → Bool → Result (List Line) ℕ → Answer
replay_behind plan s rejected front number is_over (Err bad) = bad_event bad
replay_behind plan s rejected front number is_over (Ok rest) = followed_by front (if is_over then ending plan s rejected else transcript plan s rejected (number + 1) rest)

-- `number` lines are read, the world is the view of a state, and the remaining lines complete the whole answer
pub record IsReplayedUpTo (plan : Plan) (lines : List (Option Line)) (world : View) (rejected : ℕ) (answer : Answer) (number : ℕ) (is_over : Bool) (left : List (Option Line)) : Type 0 where
  pub state : State
  pub reached : IsReached plan state
  pub live : live_view plan state ≡ world
  pub whole : replay_behind plan state rejected answer number is_over (all_from number left) ≡ replay_of_lines plan (all_from 0 lines)
  pub count : number + length left ≡ length lines

-- before the first line
pub replayed_at_start : (plan : Plan) (lines : List (Option Line)) (world : View) → world ≡ live_view plan (start plan) → IsReplayedUpTo plan lines world 0 (record { text = []; status = Done }) 0 false lines
replayed_at_start plan lines world live = record { state = start plan; reached = ([], refl); live = sym live; whole = from_nothing (all_from 0 lines); count = omega arith }
  where
    nothing_before : (status : Status) → then_status Done status ≡ status
    nothing_before Done = refl
    nothing_before Refused = refl
    nothing_before BadText = refl
    nothing_before Undecided = refl

    from_nothing : (all : Result (List Line) ℕ) → replay_behind plan (start plan) 0 (record { text = []; status = Done }) 0 false all ≡ replay_of_lines plan all
    from_nothing (Err bad) = refl
    from_nothing (Ok all) = ap (λ (s : Status). record { text = (transcript plan (start plan) 0 1 all).text; status = s }) (nothing_before (transcript plan (start plan) 0 1 all).status)

-- after one more reply, the rest is the replay from the new state, or the ending
more_replies : (plan : Plan) (s : State) (rejected : ℕ) (old new : Answer) (number : ℕ) (reply : Reply) (line : Line) (rest : Result (List Line) ℕ) → (reply_to plan s line).1 ≡ reply → new ≡ followed_by old (reply_answer plan (number + 1) reply)
    → replay_behind plan (reply_to plan s line).0 (count_rejection reply rejected) new (number + 1) (is_last reply) rest ≡ replay_behind plan s rejected old number false (rest >>= λ ls. Ok (line ∷ ls))
more_replies plan s rejected old new number reply line (Err bad) same is = refl
more_replies plan s rejected old new number reply line (Ok rest) same is =
    let x : State × Reply = reply_to plan s line in
    let behind = λ (r : Reply). cond (is_last r) (ending plan x.0 (count_rejection r rejected)) (transcript plan x.0 (count_rejection r rejected) (number + 1 + 1) rest) in
    ap (λ (a : Answer). followed_by a (behind reply)) is
    ∙ followed_by-assoc old (reply_answer plan (number + 1) reply) (behind reply)
    ∙ ap (λ (r : Reply). followed_by old (followed_by (reply_answer plan (number + 1) r) (behind r))) (sym same)

pub replayed_one_more : (plan : Plan) (lines left rest : List (Option Line)) (before after : View) (rejected : ℕ) (old new : Answer) (number : ℕ) (is_over : Bool) (reply : Reply) (line : Line) → left ≡ Some line ∷ rest
    → is_over ≡ false → IsReplayedUpTo plan lines before rejected old number is_over left → RepliesToLine plan before after line reply → new ≡ followed_by old (reply_answer plan (number + 1) reply)
    → IsReplayedUpTo plan lines after (count_rejection reply rejected) new (number + 1) (is_last reply) rest
replayed_one_more plan lines left rest before after rejected old new number is_over reply line next goes_on replayed_part replies is =
    let here = replies replayed_part.state replayed_part.reached replayed_part.live in
    record {
      state = (reply_to plan replayed_part.state line).0;
      reached = here.0;
      live = here.1;
      whole = more_replies plan replayed_part.state rejected old new number reply line (all_from (number + 1) rest) here.2 is
          ∙ sym (ap₂ (λ (over : Bool) (ls : List (Option Line)). replay_behind plan replayed_part.state rejected old number over (all_from number ls)) goes_on next)
          ∙ replayed_part.whole;
      count = omega (arith, replayed_part.count, ap (λ (ls : List (Option Line)). length ls) next);
    }

-- after the last line
pub replayed_to_end : (plan : Plan) (lines left : List (Option Line)) (world : View) (rejected : ℕ) (answer whole : Answer) (number : ℕ) (is_over : Bool) → left ≡ []
    → IsReplayedUpTo plan lines world rejected answer number is_over left → IsWithEnding plan world rejected answer whole → whole ≡ replay_of_lines plan (all_from 0 lines)
replayed_to_end plan lines left world rejected answer whole number is_over none replayed_part ended =
    ended replayed_part.state replayed_part.reached replayed_part.live
    ∙ sym (nothing_more is_over)
    ∙ sym (ap (λ (ls : List (Option Line)). replay_behind plan replayed_part.state rejected answer number is_over (all_from number ls)) none)
    ∙ replayed_part.whole
  where
    nothing_more : (over : Bool) → replay_behind plan replayed_part.state rejected answer number over (Ok []) ≡ followed_by answer (ending plan replayed_part.state rejected)
    nothing_more true = refl
    nothing_more false = refl

pub if_ok_map : {T E : Type 0} (result : Result T E) (P Q : T → Type 0) → ((x : T) → P x → Q x) → IfOk result P → IfOk result Q
if_ok_map (Ok x) P Q f h = f x h
if_ok_map (Err e) P Q f h = h
