use Rattle.conformance.proofs.RejectionsAllowed.{rejections_need_the_key, without_the_key}
use Rattle.conformance.proofs.comparison_laws.rejections_need_the_key.Goals as goal

pub returns-clause-need : goal.returns-clause-need
returns-clause-need c = rejections_need_the_key

pub returns-clause-all : goal.returns-clause-all
returns-clause-all c = without_the_key
