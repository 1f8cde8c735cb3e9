-- The meaning of the state of the rule check, in terms of the lines read.
use Rattle.std.specs.Prelude.{◌≡◌, ◌≤◌, ℕ, ◌==◌, ◌&&◌, ◌||◌, not, Bool, false, List, [], ◌∷◌, ◌++◌, is_some, Option, Some, None, Result, Ok, Err}
use Rattle.recordings.specs.declared.recording_line.RecordedActor.{RecordedActor}
use Rattle.recordings.specs.declared.recording_line.RecordedActor.TheVariants.{Job, Round}
use Rattle.recordings.specs.RecordingLine.{RecordedLine}
use Rattle.recordings.specs.declared.rule.LineRule.{LineRule}
use Rattle.recordings.specs.declared.trace_validator.TraceValidator.{TraceValidator}
use Rattle.recordings.specs.Before as said
use Rattle.recordings.specs.Rules.{first_broken_rule}
use Rattle.recordings.specs.Pools.{has_name}
use Rattle.recordings.specs.StoredState.{round_at, last_submit_of_round, job_at, last_submit_in, has_started, is_done, is_settled}

-- the stored job that the actor submitted in its last line, if any
abbrev pub last_submit_of : TraceValidator → RecordedActor → Option ℕ
last_submit_of lines (Job j) = last_submit_in (job_at lines.jobs j)
last_submit_of lines (Round r) = last_submit_of_round (round_at lines.rounds r)

abbrev pub is_at : ℕ → Option ℕ → Bool
is_at j None = false
is_at j (Some last_submit) = last_submit == j

-- the state of the rule check is the state after these lines
pub record Represents (lines : TraceValidator) (before : List RecordedLine) : Type 0 where
  pub begun : lines.begun ≡ said.has_begun before
  pub closed : lines.closed ≡ said.is_closed before
  pub pools : (pool : List ℕ) → has_name lines.pools pool ≡ said.has_pool before pool
  pub submitted : lines.jobs.submitted ≡ said.submits before
  pub rounds_begun : lines.rounds.begun ≡ said.begins before
  pub going : (round : ℕ) → is_some (round_at lines.rounds round) ≡ (said.is_begun before round && not (said.is_ended before round))
  pub not_begun : (round : ℕ) → lines.rounds.begun ≤ round → said.is_begun before round ≡ false
  pub not_ended : (round : ℕ) → lines.rounds.begun ≤ round → said.is_ended before round ≡ false
  pub started : (job : ℕ) → has_started lines.jobs job ≡ said.has_started before job
  pub done : (job : ℕ) → is_done lines.jobs job ≡ said.is_done before job
  pub settled : (job : ℕ) → is_settled lines.jobs job ≡ (said.is_done before job || said.is_cancelled before job)
  pub last_submit : (actor : RecordedActor) (job : ℕ) → is_at job (last_submit_of lines actor) ≡ said.just_submitted before actor job
  pub unsubmitted : (job : ℕ) → lines.jobs.submitted ≤ job → job_at lines.jobs job ≡ None

-- the lines read so far, with this line appended if it breaks no rule
abbrev pub with_line : Option LineRule → List RecordedLine → RecordedLine → List RecordedLine
with_line None before line = before ++ line ∷ []
with_line (Some rule) before line = before

abbrev pub IsAccepted : {E : Type 0} → Result (Option LineRule) E → List RecordedLine → RecordedLine → TraceValidator → Type 0
IsAccepted (Ok broken) before line new = (broken ≡ first_broken_rule before line) × Represents new (with_line broken before line)
IsAccepted (Err error) before line new = (first_broken_rule before line ≡ None) × Represents new before
