use Rattle.conformance.proofs.RejectionsAllowed.{unbounded_pools_reject_nothing}
use Rattle.conformance.proofs.UnboundedPools.{unbounded_pools_get_no_key}
use Rattle.conformance.proofs.comparison_laws.unbounded_pools_reject_nothing.Goals as goal

pub returns-clause-none : goal.returns-clause-none
returns-clause-none c = unbounded_pools_reject_nothing

pub returns-clause-no_key : goal.returns-clause-no_key
returns-clause-no_key c = unbounded_pools_get_no_key
