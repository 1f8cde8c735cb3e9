-- The story of a witness: what each actor does in turn, the pools after the events, and what each waiting job waits for.
use Rattle.std.specs.Prelude.{ℕ, ◌+◌, ◌-◌, ◌==◌, ◌&&◌, Bool, true, false, not, nat_le, if◌then◌else◌, bytes_eq, List, [], ◌∷◌, ◌++◌, length, map, flat_map, take, drop, codes, decimal, Option, Some, None, slice_get}
use Rattle.std.specs.List.{enumerate_from}
use Rattle.job_bodies.specs.declared.action.Action.{Action}
use Rattle.job_bodies.specs.declared.limits.TheConstants.{MAX_THREADS}
use Rattle.job_bodies.specs.declared.action.Action.TheVariants.{Get}
use Rattle.job_bodies.specs.Plan.{Plan, Pool as PoolSizes, class_at, client_at, pool_at, submitted_class}
use Rattle.pool_machine.specs.PoolState.{PoolView}
use Rattle.pool_machine.specs.declared.event.Event.{Event}
use Rattle.pool_machine.specs.declared.event.Outcome.{Outcome}
use Rattle.pool_machine.specs.declared.event.Outcome.TheVariants.{Started, Queued, Refused, Rejected, Worked, Got, Looped, Finished, Took, Retired}
use Rattle.pool_machine.specs.State as state
use Rattle.pool_machine.specs.State.{Stage, State, job_at, pool_seen}
use Rattle.report.specs.declared.event_steps.Actor.{Actor}
use Rattle.report.specs.declared.event_steps.Actor.TheVariants.{Client, Job, Pool}
use Rattle.report.specs.declared.event_steps.EventStep.{EventStep}
use Rattle.report.specs.EventRows.{event_rows, state_at_end}
use Rattle.report.specs.EventSteps.{step_of}
use Rattle.report.specs.JsonEnding.{awaited, pool_name}

-- ---- one step

-- the kind and the name of an actor, such as `client web`. A client has the name of its client kind, and a job that of its class
abbrev pub actor_text : Plan → Actor → List ℕ
actor_text plan (Client kind c) = codes "client " ++ (client_at plan kind).name
actor_text plan (Job class j) = codes "job " ++ (class_at plan class).name
actor_text plan (Pool p) = codes "pool " ++ (pool_at plan p).name

abbrev pub body_of : Plan → Actor → List Action
body_of plan (Client kind c) = (client_at plan kind).body
body_of plan (Job class j) = (class_at plan class).body
body_of plan (Pool p) = []

-- the name of the class that the actor's action submits
abbrev pub submitted_name : Plan → Actor → Option ℕ → List ℕ
submitted_name plan actor None = []
submitted_name plan actor (Some i) = (class_at plan (submitted_class (body_of plan actor) i)).name

abbrev pub taken_name : Plan → Option ℕ → List ℕ
taken_name plan None = []
taken_name plan (Some k) = (class_at plan k).name

-- the actor is a thread of a pool whose core threads may time out
abbrev pub may_time_out : Plan → Actor → Bool
may_time_out plan (Client kind c) = false
may_time_out plan (Job class j) = false
may_time_out plan (Pool p) = (pool_at plan p).core_timeout

-- the words for the end of an idle thread; `timeout` says whether core threads of its pool may time out
abbrev pub retired_words : Bool → List ℕ
retired_words timeout = if timeout then codes "an idle thread times out" else codes "a thread ends"

-- what the actor did. `submitted` is the name of the class whose job it submitted, and `taken` that of the class whose job it
-- took. `timeout` says whether it is a thread of a pool whose core threads may time out
abbrev pub act_text : Plan → List ℕ → List ℕ → Bool → Outcome → List ℕ
act_text plan submitted taken timeout (Started j) = (codes "submits " ++ submitted) ++ codes " (a new thread starts it)"
act_text plan submitted taken timeout (Queued j) = (codes "submits " ++ submitted) ++ codes " (queued)"
act_text plan submitted taken timeout (Refused p) = (codes "submits " ++ submitted) ++ ((codes " (refused by " ++ (pool_at plan p).name) ++ codes ")")
act_text plan submitted taken timeout (Rejected p j) = (codes "submits " ++ submitted) ++ ((codes " (rejected by " ++ (pool_at plan p).name) ++ codes ")")
act_text plan submitted taken timeout (Worked u) = codes "works"
act_text plan submitted taken timeout (Got j) = codes "gets its result"
act_text plan submitted taken timeout Looped = codes "begins again"
act_text plan submitted taken timeout (Finished j) = codes "is done"
act_text plan submitted taken timeout (Took j) = codes "a thread takes " ++ taken
act_text plan submitted taken timeout Retired = retired_words timeout

abbrev pub step_text : Plan → EventStep → List ℕ
step_text plan step = act_text plan (submitted_name plan step.actor step.action) (taken_name plan step.taken) (may_time_out plan step.actor) step.outcome

-- ---- turns

-- a turn: consecutive steps of one actor. `is_ended` says whether in its last step a client begins again or a thread times out.
-- `end` is the number of steps in this turn and in all turns before it
pub record Turn : Type 0 where
  pub actor : Actor
  pub text : List ℕ
  pub is_ended : Bool
  pub end : ℕ

-- a thread times out: it ends in a pool whose core threads may time out. This step is a turn of its own, so that one line counts
-- consecutive timeouts
abbrev pub is_timeout : Plan → Actor → Outcome → Bool
is_timeout plan actor Retired = may_time_out plan actor
is_timeout plan actor _ = false

-- whether the step ends its turn: a client begins again, or a thread times out
abbrev pub ends_turn : Plan → Actor → Outcome → Bool
ends_turn plan actor Looped = true
ends_turn plan actor outcome = is_timeout plan actor outcome

-- the turn that begins with the step; `before` is the number of steps before it
abbrev pub new_turn : Plan → ℕ → EventStep → Turn
new_turn plan before step =
    record { actor = step.actor; text = (actor_text plan step.actor ++ codes ": ") ++ step_text plan step; is_ended = ends_turn plan step.actor step.outcome; end = before + 1 }

-- the turn with one more step
abbrev pub longer_turn : Plan → Turn → EventStep → Turn
longer_turn plan turn step =
    record { actor = turn.actor; text = turn.text ++ (codes ", " ++ step_text plan step); is_ended = ends_turn plan step.actor step.outcome; end = turn.end + 1 }

abbrev pub is_same_actor : Actor → Actor → Bool
is_same_actor (Client kind c) (Client kind' c') = kind == kind' && c == c'
is_same_actor (Job class j) (Job class' j') = class == class' && j == j'
is_same_actor (Pool p) (Pool p') = p == p'
is_same_actor _ _ = false

-- whether the step continues the turn
abbrev pub is_continued : Plan → Turn → EventStep → Bool
is_continued plan turn step = not turn.is_ended && not (is_timeout plan step.actor step.outcome) && is_same_actor turn.actor step.actor

-- `turn`, extended by the steps that continue it, and then the turns of the other steps
abbrev pub turns_from : Plan → Turn → List EventStep → List Turn
turns_from plan turn [] = turn ∷ []
turns_from plan turn (step ∷ rest) =
    if is_continued plan turn step
    then turns_from plan (longer_turn plan turn step) rest
    else turn ∷ turns_from plan (new_turn plan turn.end step) rest

-- the steps as turns, each as long as possible
abbrev pub turns : Plan → List EventStep → List Turn
turns plan [] = []
turns plan (step ∷ rest) = turns_from plan (new_turn plan 0 step) rest

-- ---- lines

-- a line: consecutive turns with the same text. `times` is their number, and `end` the number of steps in them and in all turns
-- before them
pub record Line : Type 0 where
  pub text : List ℕ
  pub times : ℕ
  pub end : ℕ

abbrev pub new_line : Turn → Line
new_line turn = record { text = turn.text; times = 1; end = turn.end }

abbrev pub longer_line : Line → Turn → Line
longer_line line turn = record { text = line.text; times = line.times + 1; end = turn.end }

-- `line`, extended by the turns that have the same text, and then the lines of the other turns
abbrev pub lines_from : Line → List Turn → List Line
lines_from line [] = line ∷ []
lines_from line (turn ∷ rest) =
    if bytes_eq line.text turn.text
    then lines_from (longer_line line turn) rest
    else line ∷ lines_from (new_line turn) rest

-- the turns as lines, each for as many turns as possible
abbrev pub lines : List Turn → List Line
lines [] = []
lines (turn ∷ rest) = lines_from (new_line turn) rest

abbrev pub times_text : ℕ → List ℕ
times_text times = if times == 1 then codes "  " else codes "  " ++ decimal times ++ codes " x "

unfoldable pub line_text : Line → List ℕ
line_text line = times_text line.times ++ (line.text ++ 10 ∷ [])

abbrev pub end_of : Option Line → ℕ
end_of None = 0
end_of (Some line) = line.end

abbrev pub events_left_out : ℕ → List ℕ
events_left_out events = codes "  .. " ++ decimal events ++ codes " events .." ++ 10 ∷ []

-- the line that replaces the lines in the middle, with the number of the events that they show
abbrev pub omitted_text : List Line → List ℕ
omitted_text all = events_left_out (end_of (slice_get all (length all - 11)) - end_of (slice_get all 8))

-- the lines, if there are at most 20. Otherwise the first 9, a line that replaces those in the middle, and the last 10
abbrev pub lines_text : List Line → List ℕ
lines_text all =
    if nat_le (length all) 20
    then flat_map line_text all
    else (flat_map line_text (take 9 all) ++ omitted_text all) ++ flat_map line_text (drop (length all - 10) all)

abbrev pub steps_text : Plan → List EventStep → List ℕ
steps_text plan steps = lines_text (lines (turns plan steps))

-- ---- pools

-- the greatest number of threads that the pool can have: its maximum, or core if its queue is unbounded and core threads never
-- time out
abbrev pub most_threads : PoolView → ℕ
most_threads pool = if pool.unbounded && not pool.core_timeout then pool.core else pool.max

-- the pool has no maximum
abbrev pub has_no_max : PoolView → Bool
has_no_max pool = pool.core_timeout && pool.unbounded && pool.max == MAX_THREADS

unfoldable pub most_text : PoolView → List ℕ
most_text pool = if has_no_max pool then codes "unbounded" else decimal (most_threads pool)

unfoldable pub capacity_text : PoolView → List ℕ
capacity_text pool = if pool.unbounded then codes "unbounded" else decimal pool.capacity

abbrev pub pool_text : List ℕ → PoolView → List ℕ
pool_text name pool =
    (codes "pool " ++ name ++ codes ": threads " ++ decimal pool.threads ++ codes " of " ++ most_text pool)
    ++ (codes ", idle " ++ decimal pool.idle ++ codes ", queued " ++ decimal (length pool.queue) ++ codes " of " ++ capacity_text pool ++ 10 ∷ [])

abbrev pub pool_line : Plan → State → ℕ × PoolSizes → List ℕ
pool_line plan s (p, pool) = pool_text pool.name (pool_seen plan s p)

abbrev pub pools_text : Plan → State → List ℕ
pools_text plan s = flat_map (pool_line plan s) (enumerate_from 0 plan.pools)

-- ---- what jobs wait for

abbrev pub job_text : Plan → ℕ → ℕ → List ℕ
job_text plan j k = codes "job " ++ decimal j ++ codes " (" ++ (class_at plan k).name ++ codes ")"

-- the line that says that job j of class k waits for the job `child` of class k'
abbrev pub awaited_text : Plan → ℕ → ℕ → ℕ → ℕ → List ℕ
awaited_text plan j k k' child = ((job_text plan j k ++ codes " waits for ") ++ job_text plan child k') ++ 10 ∷ []

abbrev pub in_queue_of : List ℕ → List ℕ
in_queue_of pool = codes " waits in the queue of " ++ (pool ++ (codes ", whose threads all run these jobs" ++ 10 ∷ []))

abbrev pub queued_text : Plan → ℕ → ℕ → List ℕ
queued_text plan j k = job_text plan j k ++ in_queue_of (pool_name plan k)

-- the class of the jobs that the submit at position t of the body of class k creates
abbrev pub submitted_in : Plan → ℕ → ℕ → ℕ
submitted_in plan k t = submitted_class (class_at plan k).body t

-- the class of the job for which a job of class k waits at this action; 0 if the action is not a get
abbrev pub awaited_class : Plan → ℕ → Option Action → ℕ
awaited_class plan k (Some (Get t)) = submitted_in plan k t
awaited_class plan k _ = 0

-- the line that says what job j of class k waits for; empty if it is done
abbrev pub wait_text : Plan → State → ℕ → ℕ → Stage → List ℕ
wait_text plan s j k state.Stage.Queued = queued_text plan j k
wait_text plan s j k (state.Stage.At i) =
    let action = slice_get (class_at plan k).body i in flat_map (awaited_text plan j k (awaited_class plan k action)) (awaited s j action)
wait_text plan s j k _ = []

abbrev pub wait_of : Plan → State → ℕ → List ℕ
wait_of plan s j = wait_text plan s j (job_at s j).class (job_at s j).stage

abbrev pub more_jobs : ℕ → List ℕ
more_jobs more = codes "and " ++ decimal more ++ codes " more jobs" ++ 10 ∷ []

-- the line with the number of members that are not listed; empty if all are listed
abbrev pub more_text : ℕ → List ℕ
more_text members = if nat_le members 20 then [] else more_jobs (members - 20)

-- what each of the first 20 members waits for, and how many more there are
abbrev pub waits_text : Plan → State → List ℕ → List ℕ
waits_text plan s members = flat_map (wait_of plan s) (take 20 members) ++ more_text (length members)

-- ---- the story

-- the story of the events from the start of the plan, up to the first event that is not possible. `members` are the jobs that
-- wait
abbrev pub story_text : Plan → List Event → List ℕ → List ℕ
story_text plan events members =
    (steps_text plan (map (step_of plan) (event_rows plan events)) ++ pools_text plan (state_at_end plan events)) ++ waits_text plan (state_at_end plan events) members
