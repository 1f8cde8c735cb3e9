use Rattle.conformance.proofs.PoolsFound.{deviations_add_up, pools_are_as_planned, pools_are_recorded}
use Rattle.conformance.proofs.comparison_laws.pools_are_as_planned.Goals as goal

pub returns-clause-adds_up : goal.returns-clause-adds_up
returns-clause-adds_up c = deviations_add_up

pub returns-clause-as_planned : goal.returns-clause-as_planned
returns-clause-as_planned c = pools_are_as_planned

pub returns-clause-recorded : goal.returns-clause-recorded
returns-clause-recorded c = pools_are_recorded
