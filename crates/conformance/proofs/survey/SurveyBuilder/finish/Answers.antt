use Rattle.conformance.proofs.survey.SurveyBuilder.finish.Goals as goal

pub returns : goal.returns
returns c = λ lines keeps so. c.in_ok-finish.ensures lines keeps so.line_survey so.actor_survey so.excess_tracker
