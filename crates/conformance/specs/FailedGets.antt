-- Counts of the gets that timed out or were interrupted.
use Rattle.std.specs.Prelude.{◌≡◌, ℕ, ◌+◌, ◌==◌, ◌&&◌, Bool, false, if◌then◌else◌, List, Option, Some, None, count_by}
use Rattle.std.specs.HashMap.{HashMap, get}
use Rattle.std.specs.Option.{unwrap_or}
use Rattle.recordings.specs.declared.recording_line.RecordedActor.{RecordedActor}
use Rattle.recordings.specs.RecordingLine.{RecordedLine, TimedOut, Interrupted}
use Rattle.recordings.specs.LineParts.{is_same_actor}
use Rattle.conformance.specs.declared.failed_gets.JobGet.{JobGet}
use Rattle.conformance.specs.contracts.failed_gets.JobGetPartialEq.TheImpl as get_eq

-- The line records that a get of the job by the actor timed out or was interrupted.
abbrev pub is_failed_get : RecordedActor → ℕ → RecordedLine → Bool
is_failed_get actor job (TimedOut who one) = is_same_actor who actor && (one == job)
is_failed_get actor job (Interrupted who one) = is_same_actor who actor && (one == job)
is_failed_get actor job line = false

-- How often a get of the job by the actor timed out or was interrupted.
abbrev pub failed_gets : List RecordedLine → RecordedActor → ℕ → ℕ
failed_gets lines actor job = count_by (is_failed_get actor job) lines

-- The actor and the job of the get, if the line records a get that timed out or was interrupted.
abbrev pub failed_get_of : RecordedLine → Option JobGet
failed_get_of (TimedOut actor job) = Some (record { actor = actor; job = job })
failed_get_of (Interrupted actor job) = Some (record { actor = actor; job = job })
failed_get_of line = None

-- The two keys of the table have the same actor and the same job.
abbrev pub is_same_get : JobGet → JobGet → Bool
is_same_get = (get_eq.ghosts).eq

module _ {S : Type 0} where
  -- The count that the table has for this actor and job, or 0 if there is no entry.
  abbrev pub count_in : HashMap JobGet ℕ S → JobGet → ℕ
  count_in table one = unwrap_or (get is_same_get table one) 0

  -- For each actor and job, the count in the table is the number of failed gets in the lines.
  abbrev pub AreCounts : List RecordedLine → HashMap JobGet ℕ S → Type 0
  AreCounts lines table = (one : JobGet) → count_in table one ≡ failed_gets lines one.actor one.job

  -- The table `new` counts one more get of the actor and job `added` than `old`.
  abbrev pub IsCountedOnce : JobGet → HashMap JobGet ℕ S → HashMap JobGet ℕ S → Type 0
  IsCountedOnce added old new = (one : JobGet) → count_in new one ≡ (count_in old one + (if is_same_get added one then 1 else 0))
