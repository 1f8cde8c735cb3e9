-- The result of the first pass over a recording: the names in the lines, or the first invalid line.
use Rattle.std.specs.Prelude.{◌≡◌, ◌+◌, ℕ, List, if◌then◌else◌, Option, Some, None, Result, Ok, Err}
use Rattle.std.specs.List.{All, filter_map}
use Rattle.recordings.specs.RecordingLine.{RecordedLine, lines_read}
use Rattle.recordings.specs.Before.{begins, submits}
use Rattle.recordings.specs.Faults.{IsFirstFault}
use Rattle.recordings.specs.LineParts.{is_begin, is_submit}
use Rattle.recordings.specs.declared.fault.RecordingFault.{RecordingFault}
use Rattle.learning.specs.declared.inference_result.InferenceResult.{InferenceResult}
use Rattle.learning.specs.declared.inference_result.InferenceResult.TheVariants as reported
use Rattle.learning.specs.declared.inference_result.InferredPlan.{InferredPlan}
use Rattle.learning.specs.declared.recorded_names.RecordedNames.{RecordedNames}
use Rattle.learning.specs.declared.learn_error.LearnError.{LearnError}
use Rattle.learning.specs.declared.learn_error.LearnError.TheVariants.{Memory, InferenceLimit}
use Rattle.learning.specs.LearningState.{AreNamesOf, IsDraftOf, IsLearnError}
use Rattle.learning.specs.LabelRounds.{AreLabelRoundsOf}
use Rattle.learning.specs.Counts.{AreCounted}
use Rattle.learning.specs.InferenceResult.{lines_of}
use Rattle.learning.specs.Names.{IsNamedClass, IsNamedClient}
use Rattle.learning.specs.Pools.{recorded_pools}
use Rattle.learning.specs.Unfinished.{is_round_end, is_job_start, is_job_end, is_failed_get, unfinished_rounds, unfinished_jobs, failed_gets}

-- The well-formed lines, in order.
abbrev pub well_formed : List (Option RecordedLine) → List RecordedLine
well_formed lines = filter_map (λ line. line) lines

-- No line is invalid, and `names` has the names and counts of all lines.
pub record AreNamesOfAll (all : List (Option RecordedLine)) (names : RecordedNames) : Type 0 where
  pub no_fault : IsFirstFault all None
  pub named : AreNamesOf names (well_formed all)
  pub rounds : AreLabelRoundsOf names.label_rounds (well_formed all)
  pub draft : IsDraftOf (well_formed all) names.draft

-- The result is the names of all lines if no line is invalid, and otherwise the first invalid line.
abbrev pub IsNamed : List (Option RecordedLine) → Result RecordedNames RecordingFault → Type 0
IsNamed all (Ok names) = AreNamesOfAll all names
IsNamed all (Err fault) = IsFirstFault all (Some fault)

-- The error may occur for these lines. If it is an exceeded limit, no line is invalid.
abbrev pub IsLearnErrorAt : List (Option RecordedLine) → LearnError → Type 0
IsLearnErrorAt all (Memory error) = IsLearnError (well_formed all) (Memory error)
IsLearnErrorAt all (InferenceLimit reason) = IsFirstFault all None × IsLearnError (well_formed all) (InferenceLimit reason)

-- Each counter is incremented if the line is one that it counts. The pools, the draft and the rounds of each label are
-- unchanged.
pub record Counts (old : RecordedNames) (line : RecordedLine) (new : RecordedNames) : Type 0 where
  pub pools : new.pools ≡ old.pools
  pub draft : new.draft ≡ old.draft
  pub label_rounds : new.label_rounds ≡ old.label_rounds
  pub rounds : new.rounds ≡ old.rounds + (if is_begin line then 1 else 0)
  pub jobs : new.jobs ≡ old.jobs + (if is_submit line then 1 else 0)
  pub ended_rounds : new.ended_rounds ≡ old.ended_rounds + (if is_round_end line then 1 else 0)
  pub started_jobs : new.started_jobs ≡ old.started_jobs + (if is_job_start line then 1 else 0)
  pub ended_jobs : new.ended_jobs ≡ old.ended_jobs + (if is_job_end line then 1 else 0)
  pub failed_gets : new.failed_gets ≡ old.failed_gets + (if is_failed_get line then 1 else 0)

-- ---- the result
-- What the contract of `learn` promises about a learned plan.
pub record IsInferredFrom (lines : List RecordedLine) (inferred : InferredPlan) : Type 0 where
  pub pools : inferred.plan.pools ≡ recorded_pools lines
  pub counts : AreCounted lines inferred.plan.clients
  pub classes : All (IsNamedClass lines) inferred.plan.classes
  pub clients : All (IsNamedClient lines) inferred.plan.clients
  pub rounds : inferred.rounds ≡ begins lines
  pub jobs : inferred.jobs ≡ submits lines
  pub unfinished_rounds : inferred.unfinished_rounds ≡ unfinished_rounds lines
  pub unfinished_jobs : inferred.unfinished_jobs ≡ unfinished_jobs lines
  pub failed_gets : inferred.failed_gets ≡ failed_gets lines

-- The result is the first invalid line, or a learned plan if no line is invalid. It is never an `InferenceLimit`, which is
-- returned as an error.
abbrev pub IsCorrectResult : List ℕ → InferenceResult → Type 0
IsCorrectResult text (reported.Invalid fault) = IsFirstFault (lines_read text) (Some fault)
IsCorrectResult text (reported.Inferred inferred) = IsFirstFault (lines_read text) None × IsInferredFrom (lines_of text) inferred
IsCorrectResult text (reported.InferenceLimit reason) = ⊥
