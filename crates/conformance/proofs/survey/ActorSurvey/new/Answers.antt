use Rattle.conformance.proofs.survey.ActorSurvey.new.Goals as goal

pub returns : goal.returns
returns c = λ plan reported. record { reported_so = reported; verdicts = c.new-verdicts.ensures plan; others = c.new-others.ensures plan }
