-- The rules O1 to O7 for a line of a recording, in terms of the lines before it.
use Rattle.std.specs.Prelude.{ℕ, ◌==◌, ◌&&◌, ◌||◌, not, nat_lt, Bool, true, if◌then◌else◌, List, Option, Some, None}
use Rattle.recordings.specs.declared.recording_line.RecordedActor.{RecordedActor}
use Rattle.recordings.specs.declared.recording_line.RecordedActor.TheVariants.{Job, Round}
use Rattle.recordings.specs.RecordingLine.{RecordedLine, RoundBegins, Submits, Refused, JobStarts, Got}
use Rattle.recordings.specs.declared.rule.LineRule.{LineRule}
use Rattle.recordings.specs.declared.rule.LineRule.TheVariants.{Frame, Pools, Numbers, Rounds, Jobs, Refusals, Gets}
use Rattle.recordings.specs.LineParts.{actor_of, job_of, pool_of, is_head}
use Rattle.recordings.specs.Before.{has_begun, is_closed, has_pool, submits, begins, is_begun, is_ended, has_started, is_done, is_cancelled, just_submitted}

-- O1: the line is `recording 1` exactly when it is the first line, and it does not come after `end`
abbrev pub keeps_frame : List RecordedLine → RecordedLine → Bool
keeps_frame before line = (if has_begun before then not (is_head line) else is_head line) && not (is_closed before)

-- O2: a pool that the line names has a `pool` line before the line
abbrev pub is_known_pool : List RecordedLine → Option (List ℕ) → Bool
is_known_pool before (Some pool) = has_pool before pool
is_known_pool before None = true

abbrev pub keeps_pools : List RecordedLine → RecordedLine → Bool
keeps_pools before line = is_known_pool before (pool_of line)

-- O3: a job that the line submits has the next job number, and a round that the line begins has the next round number; any
-- other job that the line names was submitted before
abbrev pub has_next_number : List RecordedLine → RecordedLine → Bool
has_next_number before (Submits actor job class pool) = job == submits before
has_next_number before (RoundBegins round kind) = round == begins before
has_next_number before line = true

abbrev pub is_known_actor : List RecordedLine → Option RecordedActor → Bool
is_known_actor before (Some (Job job)) = nat_lt job (submits before)
is_known_actor before (Some (Round round)) = true
is_known_actor before None = true

abbrev pub is_known_job : List RecordedLine → Option ℕ → Bool
is_known_job before (Some job) = nat_lt job (submits before)
is_known_job before None = true

abbrev pub keeps_numbers : List RecordedLine → RecordedLine → Bool
keeps_numbers before line = has_next_number before line && is_known_actor before (actor_of line) && is_known_job before (job_of line)

-- O4: the round to which the line belongs has begun and has not ended
abbrev pub is_going : List RecordedLine → Option RecordedActor → Bool
is_going before (Some (Round round)) = is_begun before round && not (is_ended before round)
is_going before (Some (Job job)) = true
is_going before None = true

abbrev pub keeps_rounds : List RecordedLine → RecordedLine → Bool
keeps_rounds before line = is_going before (actor_of line)

-- O5: a job that the line starts has not started before; a job that is the actor of the line has started and is not done
abbrev pub starts_once : List RecordedLine → RecordedLine → Bool
starts_once before (JobStarts job) = not (has_started before job)
starts_once before line = true

abbrev pub is_running : List RecordedLine → Option RecordedActor → Bool
is_running before (Some (Job job)) = has_started before job && not (is_done before job)
is_running before (Some (Round round)) = true
is_running before None = true

abbrev pub keeps_jobs : List RecordedLine → RecordedLine → Bool
keeps_jobs before line = starts_once before line && is_running before (actor_of line)

-- O6: apart from `refused` lines of the job, the last line of the actor submits the job, and the job has not started
abbrev pub keeps_refusals : List RecordedLine → RecordedLine → Bool
keeps_refusals before (Refused actor job) = just_submitted before actor job && not (has_started before job)
keeps_refusals before line = true

-- O7: the job of a `got` line is done or cancelled
abbrev pub keeps_gets : List RecordedLine → RecordedLine → Bool
keeps_gets before (Got actor job) = is_done before job || is_cancelled before job
keeps_gets before line = true

-- the first of the rules O1 to O7 that the line breaks, if any
abbrev pub first_broken_rule : List RecordedLine → RecordedLine → Option LineRule
first_broken_rule before line =
    if not (keeps_frame before line) then Some Frame
    else (if not (keeps_pools before line) then Some Pools
    else (if not (keeps_numbers before line) then Some Numbers
    else (if not (keeps_rounds before line) then Some Rounds
    else (if not (keeps_jobs before line) then Some Jobs
    else (if not (keeps_refusals before line) then Some Refusals
    else (if not (keeps_gets before line) then Some Gets
    else None))))))
