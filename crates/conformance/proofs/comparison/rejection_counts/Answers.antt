use Rattle.std.proofs.Common.{sym, subst, ◌∙◌}
use Rattle.conformance.specs.Rejections.{AreRejectionsOf}
use Rattle.conformance.proofs.RejectionCounts.{no_counts}
use Rattle.conformance.proofs.comparison.rejection_counts.Goals as goal

pub returns-in-None : goal.returns-in-None
returns-in-None c = λ lines are. c.new.ensures.items ∙ sym (no_counts c.args.plan.now lines (subst (AreRejectionsOf c.args.plan.now lines) c.in-None.is are))
