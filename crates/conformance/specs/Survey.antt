-- The state of a survey, as a function of the lines read.
use Rattle.std.specs.Prelude.{◌≡◌, ℕ, List, ◌++◌, map, Option, Some, None, [], Result, Ok, Err}
use Rattle.job_bodies.specs.Plan.{Plan}
use Rattle.recordings.specs.RecordingLine.{RecordedLine, lines_read}
use Rattle.recordings.specs.declared.fault.RecordingFault.{RecordingFault}
use Rattle.recordings.specs.Faults.{IsFirstFault}
use Rattle.conformance.specs.PoolDeviations.{deviation_seen, deviations_by_lines, deviations_at_end}
use Rattle.conformance.specs.PoolComparison.{IsPoolComparisonOf}
use Rattle.recordings.specs.NotesOfLines.{IsNotesOf}
use Rattle.recordings.specs.PathsOfLines.{KeepsRules}
use Rattle.conformance.specs.declared.actor_classifier.ActorClassifier.{ActorClassifier}
use Rattle.conformance.specs.declared.classified_actor.ClassifiedActor.{ClassifiedActor}
use Rattle.conformance.specs.ClassifiedActor.{AreResultsOfPrefix, AreAllResultsOf}
use Rattle.conformance.specs.Represents.{IsClassifierOf}
use Rattle.conformance.specs.declared.survey.LineSurvey.{LineSurvey}
use Rattle.conformance.specs.declared.survey.ActorSurvey.{ActorSurvey}
use Rattle.conformance.specs.declared.survey.Survey.{Survey}
use Rattle.conformance.specs.declared.survey.SurveyBuilder.{SurveyBuilder}
use Rattle.conformance.specs.Lines.{lines_of}
use Rattle.conformance.specs.UnplannedLabels.{AreUnplannedLabelsOf}
use Rattle.conformance.specs.Verdicts.{IsVerdictsOf}
use Rattle.conformance.specs.OtherKinds.{AreOtherKinds}
use Rattle.conformance.specs.ExcessTracker.{CountsFirstKinds}

-- ---- the part that each line updates
-- The part that each line updates is correct for these lines.
pub record IsLineSurveyOf (plan : Plan) (lines : List RecordedLine) (line_survey : LineSurvey) : Type 0 where
  pub pools : IsPoolComparisonOf plan line_survey.pools lines
  pub deviations : map deviation_seen line_survey.deviations.items ≡ deviations_by_lines plan lines
  pub notes : IsNotesOf line_survey.notes lines
  pub unplanned : AreUnplannedLabelsOf plan lines line_survey.unplanned

-- The part that each line updates is correct at the end of the recording. Its deviations include the pools that the recording
-- lacks.
pub record IsLineSurveyAtEnd (plan : Plan) (lines : List RecordedLine) (line_survey : LineSurvey) : Type 0 where
  pub deviations : map deviation_seen line_survey.deviations.items ≡ deviations_by_lines plan lines ++ deviations_at_end plan lines
  pub notes : IsNotesOf line_survey.notes lines
  pub unplanned : AreUnplannedLabelsOf plan lines line_survey.unplanned

-- ---- the part that each classified actor updates
-- The part that each classified actor updates is correct for the actors in `reported`. These are all settled actors.
pub record IsActorSurveyOf (plan : Plan) (lines : List RecordedLine) (reported : List ClassifiedActor) (actor_survey : ActorSurvey) : Type 0 where
  pub reported_so : AreResultsOfPrefix plan lines reported
  pub verdicts : IsVerdictsOf plan reported actor_survey.verdicts
  pub others : AreOtherKinds plan reported actor_survey.others

-- The part that each classified actor updates has all actors that are settled after these lines.
pub record IsCurrent (plan : Plan) (lines : List RecordedLine) (classes : ActorClassifier) (actor_survey : ActorSurvey) : Type 0 where
  pub reported : List ClassifiedActor
  pub classes_represent : IsClassifierOf plan classes lines
  pub actor_survey_so : IsActorSurveyOf plan lines reported actor_survey

-- The part that each classified actor updates has all jobs and rounds of the recording.
pub record IsActorSurveyAtEnd (plan : Plan) (lines : List RecordedLine) (actor_survey : ActorSurvey) : Type 0 where
  pub reported : List ClassifiedActor
  pub all : AreAllResultsOf plan lines reported
  pub verdicts : IsVerdictsOf plan reported actor_survey.verdicts
  pub others : AreOtherKinds plan reported actor_survey.others

pub record IsSurveyOf (plan : Plan) (lines : List RecordedLine) (survey : Survey) : Type 0 where
  pub line_survey : IsLineSurveyAtEnd plan lines survey.line_survey
  pub actor_survey : IsActorSurveyAtEnd plan lines survey.actor_survey
  pub excess_tracker : CountsFirstKinds plan survey.actor_survey.others lines survey.excess_tracker

-- A survey under construction is correct for the lines read so far.
pub record IsSurveyBuilderOf (plan : Plan) (lines : List RecordedLine) (builder : SurveyBuilder) : Type 0 where
  pub line_survey : IsLineSurveyOf plan lines builder.survey.line_survey
  pub actor_survey : IsCurrent plan lines builder.classes builder.survey.actor_survey
  pub excess_tracker : CountsFirstKinds plan builder.survey.actor_survey.others lines builder.survey.excess_tracker
  pub nothing : builder.reported.items ≡ []

-- ---- a text
-- If no fault is returned, all lines of the text are valid and were read. Otherwise the fault is that of the first invalid
-- line.
abbrev pub ReadsAllLines : Plan → List ℕ → SurveyBuilder → Option RecordingFault → Type 0
ReadsAllLines plan text builder None =
    IsFirstFault (lines_read text) None × KeepsRules (lines_of text) × IsSurveyBuilderOf plan (lines_of text) builder
ReadsAllLines plan text builder (Some fault) = IsFirstFault (lines_read text) (Some fault)

-- The result is a survey of the lines of a text, if all lines are valid. Otherwise it is the fault of the first invalid line.
abbrev pub IsSurveyResult : Plan → List ℕ → Result Survey RecordingFault → Type 0
IsSurveyResult plan text (Ok survey) = IsFirstFault (lines_read text) None × IsSurveyOf plan (lines_of text) survey
IsSurveyResult plan text (Err fault) = IsFirstFault (lines_read text) (Some fault)
