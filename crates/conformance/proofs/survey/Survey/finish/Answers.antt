use Rattle.conformance.proofs.survey.Survey.finish.Goals as goal

pub returns : goal.returns
returns c = λ lines keeps line_survey actor_survey excess_tracker. record {
  line_survey = c.in_ok-finish-2.ensures lines line_survey;
  actor_survey = c.in_ok-finish.ensures.all lines keeps actor_survey;
  excess_tracker = record { so = λ none. excess_tracker.so (c.in_ok-finish.ensures.had none) };
}
