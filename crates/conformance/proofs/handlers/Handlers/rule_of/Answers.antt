use Rattle.std.proofs.Common.{sym, ◌∙◌}
use Rattle.conformance.proofs.RejectionRules.{rule_if, no_rule_if}
use Rattle.conformance.proofs.handlers.Handlers.rule_of.Goals as goal

pub returns-then-can_reject : goal.returns-then-can_reject
returns-then-can_reject c = λ lines are. c.rule_for.ensures lines are ∙ rule_if c.args.plan.now lines c.args.pool (sym c.can_reject.ensures ∙ c.if-can_reject.true)

pub returns-else-can_reject : goal.returns-else-can_reject
returns-else-can_reject c = λ lines are. no_rule_if c.args.plan.now lines c.args.pool (sym c.can_reject.ensures ∙ c.if-can_reject.false)
