-- The actor, the job and the pool of a line, and the effect of a line on a pool, a round, a job and an actor.
use Rattle.std.specs.Prelude.{ℕ, ◌==◌, Bool, true, false, List, Option, Some, None}
use Rattle.std.specs.Str.{bytes_eq}
use Rattle.recordings.specs.declared.recording_line.RecordedActor.{RecordedActor}
use Rattle.recordings.specs.declared.recording_line.RecordedActor.TheVariants.{Job, Round}
use Rattle.recordings.specs.RecordingLine.{RecordedLine, Head, Pool, RoundBegins, RoundEnds, Submits, Refused, JobStarts, JobEnds, JobThrew, Got, TimedOut, Interrupted, Cancels, InvokesAny, Removed, ShutDown, Unseen, End}

-- the actor to which the line belongs; None for a line that begins a round or starts a job, and for a line without an actor
abbrev pub actor_of : RecordedLine → Option RecordedActor
actor_of (RoundEnds round) = Some (Round round)
actor_of (Submits actor job class pool) = Some actor
actor_of (Refused actor job) = Some actor
actor_of (JobEnds job) = Some (Job job)
actor_of (JobThrew job) = Some (Job job)
actor_of (Got actor job) = Some actor
actor_of (TimedOut actor job) = Some actor
actor_of (Interrupted actor job) = Some actor
actor_of (Cancels actor job) = Some actor
actor_of (InvokesAny actor pool) = Some actor
actor_of line = None

-- the job that the line names, other than its actor and a job that it submits
abbrev pub job_of : RecordedLine → Option ℕ
job_of (Refused actor job) = Some job
job_of (JobStarts job) = Some job
job_of (Got actor job) = Some job
job_of (TimedOut actor job) = Some job
job_of (Interrupted actor job) = Some job
job_of (Cancels actor job) = Some job
job_of (Removed job) = Some job
job_of line = None

-- the pool that the line names, unless the line is a `pool` line
abbrev pub pool_of : RecordedLine → Option (List ℕ)
pool_of (Submits actor job class pool) = Some pool
pool_of (InvokesAny actor pool) = Some pool
pool_of (ShutDown pool) = Some pool
pool_of (Unseen pool jobs) = Some pool
pool_of line = None

-- ---- the kind of the line
abbrev pub is_head : RecordedLine → Bool
is_head Head = true
is_head line = false

abbrev pub is_end : RecordedLine → Bool
is_end End = true
is_end line = false

abbrev pub is_submit : RecordedLine → Bool
is_submit (Submits actor job class pool) = true
is_submit line = false

abbrev pub is_begin : RecordedLine → Bool
is_begin (RoundBegins round kind) = true
is_begin line = false

-- ---- the effect on a pool, a round or a job
abbrev pub declares : List ℕ → RecordedLine → Bool
declares pool (Pool name sizes) = bytes_eq name pool
declares pool line = false

abbrev pub begins_round : ℕ → RecordedLine → Bool
begins_round r (RoundBegins round kind) = round == r
begins_round r line = false

abbrev pub ends_round : ℕ → RecordedLine → Bool
ends_round r (RoundEnds round) = round == r
ends_round r line = false

abbrev pub starts_job : ℕ → RecordedLine → Bool
starts_job j (JobStarts job) = job == j
starts_job j line = false

-- the line ends the job, with a value or with an exception
abbrev pub finishes_job : ℕ → RecordedLine → Bool
finishes_job j (JobEnds job) = job == j
finishes_job j (JobThrew job) = job == j
finishes_job j line = false

abbrev pub cancels_job : ℕ → RecordedLine → Bool
cancels_job j (Cancels actor job) = job == j
cancels_job j line = false

-- ---- the effect on an actor
abbrev pub is_same_actor : RecordedActor → RecordedActor → Bool
is_same_actor (Job n) (Job m) = n == m
is_same_actor (Round n) (Round m) = n == m
is_same_actor a b = false

abbrev pub is_actor : RecordedActor → Option RecordedActor → Bool
is_actor actor None = false
is_actor actor (Some other) = is_same_actor other actor

abbrev pub is_of : RecordedActor → RecordedLine → Bool
is_of actor line = is_actor actor (actor_of line)

abbrev pub submits_job : ℕ → RecordedLine → Bool
submits_job j (Submits actor job class pool) = job == j
submits_job j line = false

abbrev pub refuses_job : ℕ → RecordedLine → Bool
refuses_job j (Refused actor job) = job == j
refuses_job j line = false
