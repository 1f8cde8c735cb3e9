use Rattle.conformance.proofs.RoundsAfter.{excesses_add_up}
use Rattle.conformance.proofs.RoundsFound.{rounds_are_within_plan}
use Rattle.conformance.proofs.comparison_laws.rounds_are_within_plan.Goals as goal

pub returns-clause-adds_up : goal.returns-clause-adds_up
returns-clause-adds_up c = excesses_add_up

pub returns-clause-within : goal.returns-clause-within
returns-clause-within c = rounds_are_within_plan
