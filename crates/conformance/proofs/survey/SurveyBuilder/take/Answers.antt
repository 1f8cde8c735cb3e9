use Rattle.conformance.proofs.ExcessTrackerAfter.{next_counted}
use Rattle.recordings.specs.RecordingLine.{line_view}
use Rattle.conformance.proofs.survey.SurveyBuilder.take.Goals as goal

pub returns : goal.returns
returns c = λ before keeps number so.
    let actor_survey = c.in_ok-take_line.ensures.current before keeps so.nothing so.actor_survey in
    record {
      line_survey = c.in_ok-take.ensures before keeps number so.line_survey;
      actor_survey = actor_survey;
      excess_tracker = next_counted c.args.plan.now before (line_view c.args.line.now) c.args.self.now.survey.actor_survey.others c.take_line.new.actor_survey.others c.args.self.now.survey.excess_tracker c.take-2.new.self c.in_ok-take_line.ensures.had actor_survey.actor_survey_so.others.none so.excess_tracker
          (λ kinds given so. c.in_ok-take-2.ensures kinds before keeps number given so);
      nothing = c.in_ok-take_line.ensures.emptied;
    }
