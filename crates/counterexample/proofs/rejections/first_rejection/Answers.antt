use Rattle.std.proofs.Common.{sym, ◌∙◌}
use Rattle.counterexample.proofs.RejectionReplays.{goes_on_unrejected, ends_rejected}
use Rattle.counterexample.proofs.rejections.first_rejection.Goals as goal

pub loop-index-preserved : goal.loop-index-preserved
loop-index-preserved c =
    goes_on_unrejected c.args.plan.now c.args.events.now c.loop-index.index c.args.pool c.loop-index.world.view c.step.new.self.view c.in-Some.outcome c.loop-index.invariant c.loop-index-test.true
    (rw c.in-Some.is at c.in_ok-outcome.ensures.answered) c.in_default-outcome.not-Refused (sym c.is_rejection_by.ensures ∙ c.if-is_rejection_by.false)

pub returns-then-is_rejection_by : goal.returns-then-is_rejection_by
returns-then-is_rejection_by c =
    ends_rejected c.args.plan.now c.args.events.now c.loop-index.index c.args.pool c.loop-index.world.view c.step.new.self.view c.in-Some.outcome c.loop-index.invariant c.loop-index-test.true
    (rw c.in-Some.is at c.in_ok-outcome.ensures.answered) (sym c.is_rejection_by.ensures ∙ c.if-is_rejection_by.true)
