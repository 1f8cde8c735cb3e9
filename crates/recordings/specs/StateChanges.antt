-- The effect of a line on the state of the rule check.
use Rattle.std.specs.Prelude.{◌≡◌, ℕ, ◌+◌, ◌||◌, true, if◌then◌else◌, List, Option, Some, None}
use Rattle.std.specs.Option.{option_map}
use Rattle.recordings.specs.declared.recording_line.RecordedActor.{RecordedActor}
use Rattle.recordings.specs.declared.recording_line.RecordedActor.TheVariants.{Job, Round}
use Rattle.recordings.specs.RecordingLine.{RecordedLine, Submits, Got, TimedOut, Interrupted, Cancels, InvokesAny}
use Rattle.recordings.specs.declared.jobs.JobState.{JobState}
use Rattle.recordings.specs.declared.trace_validator.TraceValidator.{TraceValidator}
use Rattle.recordings.specs.LineParts.{is_end, is_submit, is_begin, declares, begins_round, ends_round, starts_job, finishes_job, cancels_job, is_same_actor, submits_job}
use Rattle.recordings.specs.Pools.{has_name}
use Rattle.recordings.specs.StoredState.{round_at, job_at, new_job, with_start, with_cancel, with_last_submit}

-- the state of the rule check is unchanged
pub record IsSame (old new : TraceValidator) : Type 0 where
  pub begun : new.begun ≡ old.begun
  pub closed : new.closed ≡ old.closed
  pub pools : (pool : List ℕ) → has_name new.pools pool ≡ has_name old.pools pool
  pub submitted : new.jobs.submitted ≡ old.jobs.submitted
  pub rounds_begun : new.rounds.begun ≡ old.rounds.begun
  pub rounds : (r : ℕ) → round_at new.rounds r ≡ round_at old.rounds r
  pub jobs : (j : ℕ) → job_at new.jobs j ≡ job_at old.jobs j

-- ---- a line adds a round or a job
-- the entry of round r: a new one if the line begins the round, and otherwise the old one, `there`
abbrev pub round_if_begun : RecordedLine → ℕ → Option (Option ℕ) → Option (Option ℕ)
round_if_begun line r there = if begins_round r line then Some None else there

-- the entry of job j: a new one if the line submits the job, and otherwise the old one, `there`
abbrev pub job_if_submitted : RecordedLine → ℕ → Option JobState → Option JobState
job_if_submitted line j there = if submits_job j line then Some new_job else there

-- ---- a line changes the last submit of its actor
-- the entry of round r after `last_submit` was stored for the actor
abbrev pub round_with_last_submit : RecordedActor → Option ℕ → ℕ → Option (Option ℕ) → Option (Option ℕ)
round_with_last_submit actor last_submit r there = if is_same_actor actor (Round r) then option_map (λ _. last_submit) there else there

-- the entry of job j after `last_submit` was stored for the actor
abbrev pub job_with_last_submit : RecordedActor → Option ℕ → ℕ → Option JobState → Option JobState
job_with_last_submit actor last_submit j there = if is_same_actor actor (Job j) then option_map (with_last_submit last_submit) there else there

-- `new` is `old` with `last_submit` stored for the actor
pub record SetsLastSubmit (old : TraceValidator) (actor : RecordedActor) (last_submit : Option ℕ) (new : TraceValidator) : Type 0 where
  pub begun : new.begun ≡ old.begun
  pub closed : new.closed ≡ old.closed
  pub pools : new.pools ≡ old.pools
  pub submitted : new.jobs.submitted ≡ old.jobs.submitted
  pub rounds_begun : new.rounds.begun ≡ old.rounds.begun
  pub rounds : (r : ℕ) → round_at new.rounds r ≡ round_with_last_submit actor last_submit r (round_at old.rounds r)
  pub jobs : (j : ℕ) → job_at new.jobs j ≡ job_with_last_submit actor last_submit j (job_at old.jobs j)

-- the entry of round r after the line. If the line is a submit by the round, it sets the last submit. Any other action of the
-- round, except `refused`, sets the last submit to None
abbrev pub round_after_action : RecordedLine → ℕ → Option (Option ℕ) → Option (Option ℕ)
round_after_action (Submits actor job class pool) r there = round_with_last_submit actor (Some job) r there
round_after_action (Got actor job) r there = round_with_last_submit actor None r there
round_after_action (TimedOut actor job) r there = round_with_last_submit actor None r there
round_after_action (Interrupted actor job) r there = round_with_last_submit actor None r there
round_after_action (Cancels actor job) r there = round_with_last_submit actor None r there
round_after_action (InvokesAny actor pool) r there = round_with_last_submit actor None r there
round_after_action line r there = there

-- the entry of job j after the line. If the line is a submit by the job, it sets the last submit. Any other action of the
-- job, except `refused`, sets the last submit to None
abbrev pub job_after_action : RecordedLine → ℕ → Option JobState → Option JobState
job_after_action (Submits actor job class pool) j there = job_with_last_submit actor (Some job) j there
job_after_action (Got actor job) j there = job_with_last_submit actor None j there
job_after_action (TimedOut actor job) j there = job_with_last_submit actor None j there
job_after_action (Interrupted actor job) j there = job_with_last_submit actor None j there
job_after_action (Cancels actor job) j there = job_with_last_submit actor None j there
job_after_action (InvokesAny actor pool) j there = job_with_last_submit actor None j there
job_after_action line j there = there

-- ---- a line changes the progress of a round or a job
-- the entry of round r: None if the line ends the round, and otherwise the old one, `there`
abbrev pub round_after_progress : RecordedLine → ℕ → Option (Option ℕ) → Option (Option ℕ)
round_after_progress line r there = if ends_round r line then None else there

-- the entry of job j after the line started, cancelled or ended the job
abbrev pub job_after_progress : RecordedLine → ℕ → Option JobState → Option JobState
job_after_progress line j there =
    if finishes_job j line then None else (if starts_job j line then option_map with_start there else (if cancels_job j line then option_map with_cancel there else there))

-- ---- all changes
-- the state after the line added a pool, round or job, changed a last submit, and changed the progress of a round or job
pub record AppliesChanges (old : TraceValidator) (line : RecordedLine) (new : TraceValidator) : Type 0 where
  pub begun : new.begun ≡ old.begun
  pub closed : new.closed ≡ old.closed
  pub pools : (pool : List ℕ) → has_name new.pools pool ≡ (has_name old.pools pool || declares pool line)
  pub submitted : new.jobs.submitted ≡ old.jobs.submitted + (if is_submit line then 1 else 0)
  pub rounds_begun : new.rounds.begun ≡ old.rounds.begun + (if is_begin line then 1 else 0)
  pub rounds : (r : ℕ) → round_at new.rounds r ≡ round_after_progress line r (round_after_action line r (round_if_begun line r (round_at old.rounds r)))
  pub jobs : (j : ℕ) → job_at new.jobs j ≡ job_after_progress line j (job_after_action line j (job_if_submitted line j (job_at old.jobs j)))

-- the state after all changes by the line, including whether the recording has begun and is closed
pub record AppliesLine (old : TraceValidator) (line : RecordedLine) (new : TraceValidator) : Type 0 where
  pub begun : new.begun ≡ true
  pub closed : new.closed ≡ (old.closed || is_end line)
  pub pools : (pool : List ℕ) → has_name new.pools pool ≡ (has_name old.pools pool || declares pool line)
  pub submitted : new.jobs.submitted ≡ old.jobs.submitted + (if is_submit line then 1 else 0)
  pub rounds_begun : new.rounds.begun ≡ old.rounds.begun + (if is_begin line then 1 else 0)
  pub rounds : (r : ℕ) → round_at new.rounds r ≡ round_after_progress line r (round_after_action line r (round_if_begun line r (round_at old.rounds r)))
  pub jobs : (j : ℕ) → job_at new.jobs j ≡ job_after_progress line j (job_after_action line j (job_if_submitted line j (job_at old.jobs j)))
