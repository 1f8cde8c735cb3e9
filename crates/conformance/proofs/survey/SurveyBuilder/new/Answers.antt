use Rattle.std.proofs.Common.{[]}
use Rattle.conformance.proofs.survey.SurveyBuilder.new.Goals as goal

pub returns : goal.returns
returns c = λ plan excess_tracker. record {
  line_survey = c.new-line_survey.ensures plan;
  actor_survey = record { reported = []; classes_represent = c.new-classes.ensures.represents plan; actor_survey_so = c.new-actor_survey.ensures plan (c.new-classes.ensures.reported plan) };
  excess_tracker = record { so = λ none kinds are. excess_tracker kinds };
  nothing = c.new-reported.ensures.items;
}
