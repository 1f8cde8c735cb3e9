use Rattle.conformance.proofs.LaggingRuns.{paths_are_followed}
use Rattle.conformance.proofs.ReachableRuns.{runs_stay_reachable}
use Rattle.conformance.proofs.path_laws.paths_are_followed.Goals as goal

pub returns-clause-followed : goal.returns-clause-followed
returns-clause-followed c = paths_are_followed

pub returns-clause-reachable : goal.returns-clause-reachable
returns-clause-reachable c = runs_stay_reachable
