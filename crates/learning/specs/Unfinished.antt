-- The numbers of rounds and jobs that have not ended after these lines, and of gets that timed out or were interrupted.
use Rattle.std.specs.Prelude.{ℕ, ◌-◌, Bool, true, false, List, count_by}
use Rattle.recordings.specs.RecordingLine.{RecordedLine, RoundEnds, JobStarts, JobEnds, JobThrew, TimedOut, Interrupted}
use Rattle.recordings.specs.Before.{begins}

-- ---- the type of a line
abbrev pub is_round_end : RecordedLine → Bool
is_round_end (RoundEnds round) = true
is_round_end line = false

abbrev pub is_job_start : RecordedLine → Bool
is_job_start (JobStarts job) = true
is_job_start line = false

abbrev pub is_job_end : RecordedLine → Bool
is_job_end (JobEnds job) = true
is_job_end (JobThrew job) = true
is_job_end line = false

abbrev pub is_failed_get : RecordedLine → Bool
is_failed_get (TimedOut actor job) = true
is_failed_get (Interrupted actor job) = true
is_failed_get line = false

-- ---- all lines
-- The number of lines that end a round.
unfoldable pub round_ends : List RecordedLine → ℕ
round_ends lines = count_by is_round_end lines

-- The number of lines that start a job.
unfoldable pub job_starts : List RecordedLine → ℕ
job_starts lines = count_by is_job_start lines

-- The number of lines that end a job, with a value or with an exception.
unfoldable pub job_ends : List RecordedLine → ℕ
job_ends lines = count_by is_job_end lines

-- The number of gets that timed out or were interrupted.
unfoldable pub failed_gets : List RecordedLine → ℕ
failed_gets lines = count_by is_failed_get lines

-- The number of rounds that began and have not ended.
abbrev pub unfinished_rounds : List RecordedLine → ℕ
unfinished_rounds lines = begins lines - round_ends lines

-- The number of jobs that started and have not ended.
abbrev pub unfinished_jobs : List RecordedLine → ℕ
unfinished_jobs lines = job_starts lines - job_ends lines
