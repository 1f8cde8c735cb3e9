use Rattle.std.proofs.Common.{subst}
use Rattle.conformance.specs.PoolComparison.{Adds}
use Rattle.conformance.proofs.Unrecorded.{reported_at_end}
use Rattle.conformance.proofs.pool_comparison.PoolComparison.finish.Goals as goal

pub returns-in_ok-push_unrecorded : goal.returns-in_ok-push_unrecorded
returns-in_ok-push_unrecorded c = λ lines represents.
    subst (λ reported. Adds c.args.found.now.items reported c.push_unrecorded.new.found.items) (reported_at_end c.args.plan.now c.args.self.now lines represents c.if-self.true) c.in_ok-push_unrecorded.ensures
