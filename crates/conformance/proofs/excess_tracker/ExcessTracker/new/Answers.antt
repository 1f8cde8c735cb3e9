use Rattle.std.proofs.Common.{◌∙◌}
use Rattle.conformance.proofs.LineSurveyAfter.{no_excesses}
use Rattle.conformance.proofs.excess_tracker.ExcessTracker.new.Goals as goal

pub returns : goal.returns
returns c = λ kinds. record { rounds = c.new-2.ensures kinds; comparison_state = c.in_ok-comparison_state.ensures kinds; found = c.new-3.ensures.items ∙ no_excesses c.args.plan.now kinds }
