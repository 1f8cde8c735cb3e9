-- Properties of the lines before a line.
use Rattle.std.specs.Prelude.{ℕ, ◌&&◌, not, Bool, true, false, List, [], ◌∷◌, Option, Some, None, count_by, filter}
use Rattle.std.specs.List.{list_any}
use Rattle.recordings.specs.declared.recording_line.RecordedActor.{RecordedActor}
use Rattle.recordings.specs.RecordingLine.{RecordedLine}
use Rattle.recordings.specs.LineParts.{is_end, is_submit, is_begin, declares, begins_round, ends_round, starts_job, finishes_job, cancels_job, is_of, submits_job, refuses_job}

-- ---- the recording
unfoldable pub has_begun : List RecordedLine → Bool
has_begun [] = false
has_begun (line ∷ before) = true

unfoldable pub is_closed : List RecordedLine → Bool
is_closed before = list_any is_end before

unfoldable pub has_pool : List RecordedLine → List ℕ → Bool
has_pool before pool = list_any (declares pool) before

-- the number of submitted jobs
unfoldable pub submits : List RecordedLine → ℕ
submits before = count_by is_submit before

-- the number of rounds that began
unfoldable pub begins : List RecordedLine → ℕ
begins before = count_by is_begin before

-- ---- a round
unfoldable pub is_begun : List RecordedLine → ℕ → Bool
is_begun before round = list_any (begins_round round) before

unfoldable pub is_ended : List RecordedLine → ℕ → Bool
is_ended before round = list_any (ends_round round) before

-- ---- a job
unfoldable pub has_started : List RecordedLine → ℕ → Bool
has_started before job = list_any (starts_job job) before

unfoldable pub is_done : List RecordedLine → ℕ → Bool
is_done before job = list_any (finishes_job job) before

unfoldable pub is_cancelled : List RecordedLine → ℕ → Bool
is_cancelled before job = list_any (cancels_job job) before

-- ---- an actor
abbrev pub last_of : List RecordedLine → Option RecordedLine
last_of [] = None
last_of (line ∷ []) = Some line
last_of (line ∷ next ∷ lines) = last_of (next ∷ lines)

abbrev pub is_submit_of : ℕ → Option RecordedLine → Bool
is_submit_of job None = false
is_submit_of job (Some line) = submits_job job line

-- apart from `refused` lines of the job, the last line of the actor submits the job
unfoldable pub just_submitted : List RecordedLine → RecordedActor → ℕ → Bool
just_submitted before actor job = is_submit_of job (last_of (filter (λ line. is_of actor line && not (refuses_job job line)) before))
