use Rattle.std.proofs.lemmas.Result.{on_ok_weaker}
use Rattle.conformance.proofs.LineSurveyAfter.{seen_more}
use Rattle.conformance.proofs.survey.LineSurvey.finish.Goals as goal

pub returns : goal.returns
returns c = λ lines so. on_ok_weaker c.finish.result (λ adds. record { deviations = seen_more _ _ _ _ so.deviations adds; notes = so.notes; unplanned = so.unplanned }) (c.finish.ensures lines so.pools)
