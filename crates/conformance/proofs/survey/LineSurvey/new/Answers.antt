use Rattle.std.proofs.Common.{map, ap, ◌∙◌}
use Rattle.conformance.specs.PoolDeviations.{deviation_seen}
use Rattle.conformance.proofs.LineSurveyAfter.{no_deviations}
use Rattle.conformance.proofs.survey.LineSurvey.new.Goals as goal

pub returns : goal.returns
returns c = λ plan. record { pools = c.new-pools.ensures plan; deviations = ap (map deviation_seen) c.new-deviations.ensures.items ∙ no_deviations plan; notes = c.new-notes.ensures; unplanned = c.new-unplanned.ensures plan }
